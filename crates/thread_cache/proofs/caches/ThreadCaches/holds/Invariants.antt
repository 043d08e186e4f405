use Rattle.std.proofs.Common.{ℕ, ◌<◌}
use Rattle.thread_cache.specs.Stacks.{stacks_of}
use Rattle.thread_cache.specs.Kept.{HasNone}
use Rattle.thread_cache.proofs.caches.ThreadCaches.holds.Given as goal

abbrev pub invariant-loop-class : goal.invariant-loop-class
invariant-loop-class l = (other : ℕ) → other < l.class → HasNone (stacks_of l.self) other l.at
