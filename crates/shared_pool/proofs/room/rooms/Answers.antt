use Rattle.std.proofs.Common.{rules}
use Rattle.std.specs.Vec.{vec_len, vec_capacity}
use Rattle.shared_pool.proofs.FreshPasses.{room_pushed}
use Rattle.shared_pool.proofs.room.rooms.Goals as goal

pub loop-preserved : goal.loop-preserved
loop-preserved g c = (search rules, room_pushed (λ r. (vec_len r, vec_capacity r)) c.args.items c.loop.made.items c.push.new.self.items c.in_ok-with_capacity.field-0 c.in_ok-push.ensures.items c.loop.invariant.1 (search rules))
