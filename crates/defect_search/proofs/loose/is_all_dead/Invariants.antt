use Rattle.std.proofs.Common.{◌≡◌, ℕ, ◌<◌, false}
use Rattle.image_tables.specs.Tables.{tables_of}
use Rattle.defect_search.proofs.loose.is_all_dead.Given as goal

abbrev pub invariant-loop-place : goal.invariant-loop-place
invariant-loop-place l = (k : ℕ) → k < l.place → ((tables_of l.words).header l.start).live k ≡ false
