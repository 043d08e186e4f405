use Rattle.std.proofs.Common.{ℕ, ◌<◌}
use Rattle.gc_check.specs.Heap.{gc_tables}
use Rattle.gc_search.specs.Known.{IsGcSettled}
use Rattle.gc_search.proofs.roots.stray_root.Given as goal

abbrev pub invariant-loop-root : goal.invariant-loop-root
invariant-loop-root l = (k : ℕ) → k < l.root → IsGcSettled (gc_tables l.words) k
