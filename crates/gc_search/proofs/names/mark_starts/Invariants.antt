use Rattle.std.proofs.Common.{◌≡◌, length}
use Rattle.gc_check.specs.Heap.{gc_tables}
use Rattle.defect_search.specs.Roots.{AreMarks, IsNamedStart}
use Rattle.gc_search.proofs.names.mark_starts.Given as goal

abbrev pub invariant-loop-root : goal.invariant-loop-root
invariant-loop-root l = record { size : length l.marks ≡ length l.fn.marks; marks : AreMarks (IsNamedStart (gc_tables l.words) l.root) l.marks }
