use Rattle.std.proofs.Common.{◌/◌, ltb}
use Rattle.thread_cache.specs.Stacks.{stacks_of}
use Rattle.thread_cache.specs.Kept.{IsPurgedWhere}
use Rattle.thread_cache.proofs.caches.ThreadCaches.purge_slab.Given as goal

abbrev pub invariant-loop-class : goal.invariant-loop-class
invariant-loop-class l = IsPurgedWhere (l.slab / 16384) (λ other c. ltb c l.class) (stacks_of l.fn.self) (stacks_of l.self)
