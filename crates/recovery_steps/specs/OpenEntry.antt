-- The open write-ahead entry, found with its line.
use Rattle.std.specs.Prelude.{◌≡◌, ℕ, ◌<◌, List, None}
use Rattle.image_tables.specs.Tables.{tables_of}
use Rattle.settle_steps.specs.Settled.{IsOpenIn}
use Rattle.recovery_steps.specs.declared.open_entry.OpenEntry.{OpenEntry}

-- no entry is open
pub record IsClosed (words : List ℕ) : Type 0 where
  pub closed : (tables_of words).open_entry ≡ None

-- the entry is open, in this line
pub record IsFoundOpen (words : List ℕ) (found : OpenEntry) : Type 0 where
  pub line : found.line < 8
  pub open_in : IsOpenIn words found.line found.entry
