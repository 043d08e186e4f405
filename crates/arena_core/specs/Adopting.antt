-- What the indexes of an arena have read of an image so far, while an arena is made over it.
use Rattle.std.specs.Prelude.{false, ◌≡◌, ◌↔◌, nat_lt, ℕ, ◌<◌, ◌≤◌, true, List, length, slice_index, Option, Some, None, if◌then◌else◌}
use Rattle.pool_layout.specs.Header.{granules_in}
use Rattle.size_classes.specs.Classes.{class_capacity}
use Rattle.image_tables.specs.Extents.{extent_at}
use Rattle.image_tables.specs.Tables.{Tables, tables_of}
use Rattle.book_log.specs.declared.entry.LogEntry.{LogEntry}
use Rattle.book_log.specs.Table.{IsNextLive}
use Rattle.heap_model.specs.Machine.{Bounds}
use Rattle.heap_model.specs.Slabs.{live_below}
use Rattle.extent_index.specs.FreeSet.{FreeSet, IsFree}
use Rattle.slab_index.specs.SlabSet.{class_in}
use Rattle.slab_index.specs.Unfit.{is_unfit}
use Rattle.slab_index.specs.Lives.{Lives, normal_at}
use Rattle.block_supply.specs.Supply.{Supply, MayBeGiven}
use Rattle.heap_check.specs.Heap.{heap, slabs, IsUnusedIn}
use Rattle.heap_check.specs.Sound.{Covers}
use Rattle.heap_check.specs.Image.{bounds_of}
use Rattle.heap_check.specs.Views.{normal_of}

-- a granule lies in the heap, and in no live extent that starts below another
pub record IsVacantBelow (b : Bounds) (t : Tables) (from k : ℕ) : Type 0 where
  pub low : b.first ≤ k
  pub high : k < b.granules
  pub none : (start : ℕ) → start < from → ¬ (Covers t start k)

-- the slabs that begin below a granule, each with its class
abbrev pub slabs_below : Tables → ℕ → ℕ → Option ℕ
slabs_below t from start = if nat_lt start from then slabs t start else None

-- the indexes have the live extents of these words that start below a granule
pub record IsReadBelow (words : List ℕ) (set : FreeSet) (parts : Supply) (from : ℕ) : Type 0 where
  pub granules : set.granules ≡ granules_in words
  pub free : (k : ℕ) → IsFree set k ↔ IsVacantBelow (bounds_of words) (tables_of words) from k
  pub slab_granules : parts.slabs.granules ≡ granules_in words
  pub classes : (start : ℕ) → class_in parts.slabs start ≡ slabs_below (tables_of words) from start
  pub blocks : (start i : ℕ) → start < from → (tables_of words).slab start ≡ true → i < class_capacity ((tables_of words).header start).class →
      MayBeGiven parts start i ↔ IsUnusedIn (tables_of words) start ((tables_of words).header start).class i

-- the second supply is the first with one slab more, in which the blocks are open that are unused
pub record IsWithSlabOf (words : List ℕ) (old new : Supply) (start : ℕ) : Type 0 where
  pub granules : new.slabs.granules ≡ old.slabs.granules
  pub here : class_in new.slabs start ≡ Some ((tables_of words).header start).class
  pub blocks : (i : ℕ) → i < class_capacity ((tables_of words).header start).class → MayBeGiven new start i ↔ IsUnusedIn (tables_of words) start ((tables_of words).header start).class i
  pub classes : (other : ℕ) → ¬ (other ≡ start) → class_in new.slabs other ≡ class_in old.slabs other
  pub others : (other i : ℕ) → ¬ (other ≡ start) → MayBeGiven new other i ↔ MayBeGiven old other i

-- the counts are those of the blocks of the roots below one
pub record HasCounted (words : List ℕ) (counts : List ℕ) (root : ℕ) : Type 0 where
  pub size : length counts ≡ granules_in words
  pub each : (start : ℕ) → slice_index counts start ≡ (if (tables_of words).slab start then live_below (heap (tables_of words)) start root else 0)

-- of the slabs that begin below a granule the normal ones are noted
pub record HasNoted (words : List ℕ) (lives : Lives) (from : ℕ) : Type 0 where
  pub each : (start : ℕ) → normal_at lives start ≡ (if nat_lt start from then normal_of (tables_of words) start else None)
  pub no_unfit : (class start : ℕ) → is_unfit lives.unfit class start ≡ false

-- the entry says the next live extent, and those that start below it are read
pub record IsNextRead (words : List ℕ) (set : FreeSet) (parts : Supply) (next : LogEntry) : Type 0 where
  pub from : ℕ
  pub live : IsNextLive (extent_at words) from next
  pub read : IsReadBelow words set parts from
