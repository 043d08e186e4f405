use Rattle.std.proofs.Common.{ℕ, ◌<◌}
use Rattle.heap_model.specs.Placement.{Has}
use Rattle.thread_cache.specs.Stacks.{stacks_of}
use Rattle.thread_cache.proofs.caches.ThreadCaches.class_holds.Given as goal

abbrev pub invariant-loop-seat : goal.invariant-loop-seat
invariant-loop-seat l = (other : ℕ) → other < l.seat → ¬ (Has (stacks_of l.self other l.class) l.at)
