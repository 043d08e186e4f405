-- What is known of the blocks of roots and of slabs while a map is drawn.
use Rattle.std.specs.Prelude.{◌≡◌, ℕ, ◌+◌, ◌*◌, ◌<◌, ◌≤◌, true, List, length, slice_index_or, Option, Some, None}
use Rattle.image_tables.specs.Tables.{Tables}
use Rattle.image_defects.specs.Count.{IsCount}
use Rattle.gc_check.specs.Heap.{class_field}
use Rattle.heap_map.specs.Facts.{IsTotal}
use Rattle.gc_map.specs.Slabs.{IsIn, IsLiveIn, IsOldIn, HasBytes}
use Rattle.gc_map.specs.declared.places.Place.{Place}
use Rattle.gc_map.specs.declared.tallies.Tally.{Tally}

-- slabs

-- no slab has the granule
pub record HasNoSlabOver (t : Tables) (granule : ℕ) : Type 0 where
  pub none : (start : ℕ) → t.slab start ≡ true → start ≤ granule → ¬ (granule < start + 4)

-- that at a start has it
pub record IsSlabOver (t : Tables) (granule start : ℕ) : Type 0 where
  pub slab : t.slab start ≡ true
  pub low : start ≤ granule
  pub high : granule < start + 4

-- blocks of roots

-- the root has no block in a slab
pub record HasNoPlace (t : Tables) (root : ℕ) : Type 0 where
  pub none : (start : ℕ) → ¬ (IsIn t start root)

-- it has one there
pub record IsPlaceOf (t : Tables) (root : ℕ) (place : Place) : Type 0 where
  pub lies : IsIn t place.start root
  pub class : class_field (t.word root) ≡ place.class + 1
  pub is_class : place.class < 36
  pub slab_class : (t.header place.start).class ≡ place.slab_class

abbrev pub IsPlaced : Tables → ℕ → Option Place → Type 0
IsPlaced t root None = HasNoPlace t root
IsPlaced t root (Some place) = IsPlaceOf t root place

abbrev pub place_in : List (Option Place) → ℕ → Option Place
place_in places root = slice_index_or places root None

-- the list says where the block of each of the first n roots lies
pub record ArePlaces (t : Tables) (n : ℕ) (places : List (Option Place)) : Type 0 where
  pub all : length places ≡ n
  pub each : (root : ℕ) → root < n → IsPlaced t root (place_in places root)

-- tallies

abbrev pub no_tally : Tally
no_tally = record { live = 0; old = 0; bytes = 0 }

abbrev pub tally_in : List Tally → ℕ → Tally
tally_in tallies start = slice_index_or tallies start no_tally

-- so many blocks of the first n roots live in the slab at a start, and they have so many bytes
pub record IsTally (t : Tables) (start n : ℕ) (tally : Tally) : Type 0 where
  pub live : IsCount (IsLiveIn t start) n tally.live
  pub old : IsCount (IsOldIn t start) n tally.old
  pub bytes : IsTotal (HasBytes t start) n tally.bytes
  pub few_live : tally.live ≤ n
  pub few_old : tally.old ≤ n
  pub few_bytes : tally.bytes ≤ 16384 * n

-- the list has the tally of each granule
pub record AreTallies (t : Tables) (granules n : ℕ) (tallies : List Tally) : Type 0 where
  pub all : length tallies ≡ granules
  pub each : (start : ℕ) → start < granules → IsTally t start n (tally_in tallies start)
