use Rattle.arena_server.proofs.Orders.{first_sent}
use Rattle.arena_server.proofs.laws.law_of_order.Goals as goal

pub returns : goal.returns
returns c = first_sent
