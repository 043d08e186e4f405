use Rattle.std.proofs.Common.{ℕ, ◌<◌}
use Rattle.image_tables.specs.Tables.{tables_of}
use Rattle.defect_search.specs.Stray.{number_in, IsStrayBlock}
use Rattle.defect_search.proofs.stray.stray_in_word.Given as goal

abbrev pub invariant-loop-bit : goal.invariant-loop-bit
invariant-loop-bit l = (k : ℕ) → k < l.bit → ¬ (IsStrayBlock (tables_of l.words) l.fn.slab.start (number_in l.word k))
