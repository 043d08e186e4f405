-- The slabs of an image, as they were read.
use Rattle.std.specs.Prelude.{◌≡◌, ℕ, ◌+◌, ◌*◌, ◌^◌, ◌<◌, ◌≤◌, true, List, length, slice_index_or}
use Rattle.size_classes.specs.Classes.{class_capacity}
use Rattle.image_tables.specs.Tables.{Tables, is_slab, tables_of}
use Rattle.slab_header.specs.declared.state.SlabState.TheVariants.{Normal}
use Rattle.slab_header.specs.State.{kind_of, class_of, old_of, entries_of, IsValidState}
use Rattle.image_reading.specs.declared.slab.Slab.{Slab}

-- the header of a slab lies among the words
pub record IsSlabAt (words : List ℕ) (start : ℕ) : Type 0 where
  pub slab : is_slab words start ≡ true
  pub inside : 2048 * start + 256 ≤ length words
  pub small : start < 2 ^ 15

-- the tables say the same of a slab
pub record IsSlabOf (t : Tables) (slab : Slab) : Type 0 where
  pub kind : (t.header slab.start).kind ≡ kind_of slab.state
  pub class : (t.header slab.start).class ≡ class_of slab.state
  pub old : (t.header slab.start).old ≡ old_of slab.state
  pub entries : (t.header slab.start).index_count ≡ entries_of slab.state
  pub valid : IsValidState slab.state
  pub numbers : (place : ℕ) → place < (t.header slab.start).index_count → (t.header slab.start).number place < class_capacity (t.header slab.start).old

-- a slab that was read
pub record IsRead (words : List ℕ) (slab : Slab) : Type 0 where
  pub at : IsSlabAt words slab.start
  pub of : IsSlabOf (tables_of words) slab

abbrev pub no_slab : Slab
no_slab = record { start = 0; state = Normal 0 }

abbrev pub slab_in : List Slab → ℕ → Slab
slab_in slabs i = slice_index_or slabs i no_slab

-- the list has the slabs of an image, by rising start
pub record AreSlabs (words : List ℕ) (slabs : List Slab) : Type 0 where
  pub each : (i : ℕ) → i < length slabs → IsRead words (slab_in slabs i)
  pub all : (start : ℕ) → is_slab words start ≡ true → (i : ℕ) × (i < length slabs) × ((slab_in slabs i).start ≡ start)
  pub rising : (i j : ℕ) → i < j → j < length slabs → (slab_in slabs i).start < (slab_in slabs j).start
