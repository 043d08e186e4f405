use Rattle.std.proofs.Common.{ℕ, ◌<◌}
use Rattle.image_tables.specs.Tables.{tables_of}
use Rattle.image_reading.proofs.Holding.{HasBack}
use Rattle.image_reading.proofs.held.is_held.Given as goal

abbrev pub invariant-loop-back : goal.invariant-loop-back
invariant-loop-back l = (d : ℕ) → d < l.back → ¬ (HasBack (tables_of l.words) l.last d l.at)
