use Rattle.std.proofs.Common.{◌∙◌}
use Rattle.arena_lock.specs.Known.{Lock}
use Rattle.shared_pool.proofs.Closings.{map_twice}
use Rattle.shared_pool.proofs.NewLocks.{same_arenas}
use Rattle.shared_pool.proofs.pool.SharedPool.start.Goals as goal

pub returns-in-Ok-begin_all-clause-openings : goal.returns-in-Ok-begin_all-clause-openings
returns-in-Ok-begin_all-clause-openings g c = map_twice (λ (l : Lock). l.opening) _ c.split_all-locks.result.0.items ∙ (c.split_all-locks.ensures.openings ∙ c.in-Ok-begin_all.ensures.openings)

pub returns-in-Err-clause-handed_back : goal.returns-in-Err-clause-handed_back
returns-in-Err-clause-handed_back g c = same_arenas c.in-Err.back.1.items c.args.arenas.items c.in-Err.ensures.handed_back
