use Rattle.std.proofs.Common.{ℕ, ◌<◌}
use Rattle.image_tables.specs.Tables.{tables_of}
use Rattle.defect_search.specs.Roots.{IsSettled}
use Rattle.defect_search.proofs.root.stray_root.Given as goal

abbrev pub invariant-loop-root : goal.invariant-loop-root
invariant-loop-root l = (k : ℕ) → k < l.root → IsSettled (tables_of l.words) k
