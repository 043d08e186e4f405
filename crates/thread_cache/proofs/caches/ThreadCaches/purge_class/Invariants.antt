use Rattle.std.proofs.Common.{◌/◌, eqb, ltb, ◌&&◌}
use Rattle.thread_cache.specs.Stacks.{stacks_of}
use Rattle.thread_cache.specs.Kept.{IsPurgedWhere}
use Rattle.thread_cache.proofs.caches.ThreadCaches.purge_class.Given as goal

abbrev pub invariant-loop-seat : goal.invariant-loop-seat
invariant-loop-seat l = IsPurgedWhere (l.slab / 16384) (λ other c. ltb other l.seat && eqb c l.class) (stacks_of l.fn.self) (stacks_of l.self)
