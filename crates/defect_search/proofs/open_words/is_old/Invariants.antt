use Rattle.std.proofs.Common.{ℕ, ◌<◌}
use Rattle.image_tables.specs.Tables.{tables_of}
use Rattle.defect_search.proofs.OpenEntries.{HasOldBlock}
use Rattle.defect_search.proofs.open_words.is_old.Given as goal

abbrev pub invariant-loop-back : goal.invariant-loop-back
invariant-loop-back l = (d : ℕ) → d < l.back → ¬ (HasOldBlock (tables_of l.words) l.last d l.at l.place)
