-- The open place entry whose block a slab holds while its root holds nothing.
use Rattle.std.specs.Prelude.{◌≡◌, ℕ, Option, Some, None}
use Rattle.image_tables.specs.declared.entry.WalEntry.{WalEntry}
use Rattle.image_tables.specs.declared.entry.WalEntry.TheVariants.{Place, Move}
use Rattle.image_tables.specs.Tables.{Tables}
use Rattle.heap_check.specs.Sound.{IsHeld}

-- a slab holds a block at the address, and the root holds nothing
pub record IsLooseAt (t : Tables) (root at : ℕ) : Type 0 where
  pub none : t.root root ≡ 0
  pub held : IsHeld t at

-- the entry names such a root and address
abbrev pub IsLooseEntry : Tables → WalEntry → Type 0
IsLooseEntry t (Place root at old place) = IsLooseAt t root at
IsLooseEntry t (Move from to) = ⊥

-- an entry is open, and does
abbrev pub HasLooseEntry : Tables → Option WalEntry → Type 0
HasLooseEntry t None = ⊥
HasLooseEntry t (Some entry) = IsLooseEntry t entry
