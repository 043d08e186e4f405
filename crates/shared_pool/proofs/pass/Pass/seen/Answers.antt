use Rattle.shared_pool.proofs.PassTurns.{seen_here}
use Rattle.shared_pool.proofs.pass.Pass.seen.Goals as goal

pub returns : goal.returns
returns c = record { seen = seen_here c.self.inside.spots.items c.self.inside.number c.args.arena c.index.result.now c.args.self.now c.self.view_is c.requires.arena c.self.invariant.1 c.index.ensures }
