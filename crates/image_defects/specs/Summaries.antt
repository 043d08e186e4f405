-- What is told of an image: how much it has of each kind.
use Rattle.std.specs.Prelude.{◌≡◌, ◌≢◌, ℕ, ◌+◌, ◌*◌, ◌<◌, true, List, Option, Some, None}
use Rattle.pool_layout.specs.Layout.{layout_of}
use Rattle.pool_layout.specs.Header.{version_in, granules_in}
use Rattle.image_tables.specs.declared.entry.WalEntry.{WalEntry}
use Rattle.image_tables.specs.Tables.{Tables, tables_of}
use Rattle.heap_model.specs.Machine.{Range}
use Rattle.heap_check.specs.Heap.{heap, Holds}
use Rattle.image_defects.specs.declared.found.Loose.{Loose}
use Rattle.image_defects.specs.declared.summary.Summary.{Summary}
use Rattle.image_defects.specs.Count.{IsCount}
use Rattle.image_defects.specs.Loose.{AreLoose}

-- a live large extent starts at the granule
abbrev pub HasLarge : Tables → ℕ → Type 0
HasLarge t start = 0 < t.large start

-- a live slab does
abbrev pub HasSlab : Tables → ℕ → Type 0
HasSlab t start = t.slab start ≡ true

-- the root holds a block
abbrev pub HasRoot : Tables → ℕ → Type 0
HasRoot t root = t.root root ≢ 0

-- a slab holds a block at the address that no root holds
pub record IsLooseBlock (t : Tables) (at : ℕ) : Type 0 where
  pub start : ℕ
  pub range : Range
  pub holds : Holds t start range
  pub here : range.at ≡ at
  pub none : (root : ℕ) → heap t root ≢ Some range

-- how many entries are open
abbrev pub entry_count : Option WalEntry → ℕ
entry_count None = 0
entry_count (Some entry) = 1

-- so many things are loose in an arena of so many granules: the open entry, blocks that no root holds, and the four kinds
pub record IsLooseTotal (t : Tables) (granules total : ℕ) : Type 0 where
  pub held : ℕ
  pub blocks : IsCount (IsLooseBlock t) (16384 * granules) held
  pub loose : Loose
  pub are : AreLoose t granules loose
  pub is : total ≡ entry_count t.open_entry + held + loose.large + loose.empty + loose.morphing + loose.done

-- the summary tells what the words have
pub record IsSummary (words : List ℕ) (summary : Summary) : Type 0 where
  pub large : IsCount (HasLarge (tables_of words)) (granules_in words) summary.large
  pub slabs : IsCount (HasSlab (tables_of words)) (granules_in words) summary.slabs
  pub blocks : IsCount (HasRoot (tables_of words)) (layout_of (version_in words)).roots summary.blocks
  pub loose : IsLooseTotal (tables_of words) (granules_in words) summary.loose

-- there is one summary at most
abbrev pub LawOfOneSummary : Type 0
LawOfOneSummary = (words : List ℕ) (summary other : Summary) → IsSummary words summary → IsSummary words other → summary ≡ other
