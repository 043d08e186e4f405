use Rattle.std.proofs.Common.{◌≡◌, length}
use Rattle.image_tables.specs.Tables.{tables_of}
use Rattle.defect_search.specs.Roots.{AreMarks, IsNamedStart}
use Rattle.defect_search.proofs.loose.named_starts.Given as goal

abbrev pub invariant-loop-root : goal.invariant-loop-root
invariant-loop-root l = record { size : length l.marks.items ≡ l.granules; marks : AreMarks (IsNamedStart (tables_of l.words) l.root) l.marks.items }
