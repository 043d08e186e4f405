-- Tables with one thing changed.
use Rattle.std.specs.Prelude.{◌==◌, ℕ, Bool, Option, Some, None, if◌then◌else◌}
use Rattle.image_tables.specs.declared.entry.WalEntry.{WalEntry}
use Rattle.image_tables.specs.declared.entry.WalEntry.TheVariants.{Place, Move}
use Rattle.image_tables.specs.Tables.{held_of, SlabHeader, Tables, bit_rows, live_rows, number_rows}

-- a table with one entry changed
abbrev pub put_at : {X : Type 0} → (ℕ → X) → ℕ → X → ℕ → X
put_at table key new other = if other == key then new else table other

-- a table of rows with one entry of one row changed
abbrev pub put_in : {X : Type 0} → (ℕ → ℕ → X) → ℕ → ℕ → X → ℕ → ℕ → X
put_in table row key new = put_at table row (put_at (table row) key new)

-- the header of the slab at a granule is another
abbrev pub put_header : Tables → ℕ → SlabHeader → Tables
put_header t start h = record t { header = put_at t.header start h }

-- the slabs have these bits and index tables
abbrev pub with_rows : Tables → (ℕ → ℕ → Bool) → (ℕ → ℕ → Bool) → (ℕ → ℕ → ℕ) → Tables
with_rows t bits lives numbers = record t { header = λ start. record (t.header start) { bit = bits start; live = lives start; number = numbers start } }

-- the bit of block i of the slab at a granule is changed
abbrev pub put_bit : Tables → ℕ → ℕ → Bool → Tables
put_bit t start i on = with_rows t (put_in (bit_rows t) start i on) (live_rows t) (number_rows t)

-- the live bit of a place of the index table of the slab at a granule is changed
abbrev pub put_live : Tables → ℕ → ℕ → Bool → Tables
put_live t start place live = with_rows t (bit_rows t) (put_in (live_rows t) start place live) (number_rows t)

-- a place of the index table of the slab at a granule is changed
abbrev pub put_index : Tables → ℕ → ℕ → Bool → ℕ → Tables
put_index t start place live number = with_rows t (bit_rows t) (put_in (live_rows t) start place live) (put_in (number_rows t) start place number)

-- the open entry is another, or none
abbrev pub with_open_entry : Tables → Option WalEntry → Tables
with_open_entry t other = record t { open_entry = other; root = held_of other t.word }

-- no move entry is open
abbrev pub HasNoMove : Option WalEntry → Type 0
HasNoMove None = Unit {0}
HasNoMove (Some (Place root at old place)) = Unit {0}
HasNoMove (Some (Move from to)) = ⊥

-- the word of a root is changed, while no move entry is open
abbrev pub with_root : Tables → ℕ → ℕ → Tables
with_root t root word = record t { word = put_at t.word root word; root = put_at t.root root word }

-- the bit of block i of the slab at a granule, the word of a root, and the open entry are changed
abbrev pub with_small : Tables → ℕ → ℕ → Bool → ℕ → ℕ → Option WalEntry → Tables
with_small t start i on root word entry = record (with_root (put_bit t start i on) root word) { open_entry = entry }

-- the live bit of a place of the index table of the slab at a granule, the word of a root, and the open entry are changed
abbrev pub with_old : Tables → ℕ → ℕ → Bool → ℕ → ℕ → Option WalEntry → Tables
with_old t start place live root word entry = record (with_root (put_live t start place live) root word) { open_entry = entry }
