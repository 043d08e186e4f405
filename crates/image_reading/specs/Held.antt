-- Blocks that a slab holds, by address.
use Rattle.std.specs.Prelude.{◌≡◌, ℕ, ◌+◌, ◌<◌, List, true, false}
use Rattle.size_classes.specs.Classes.{class_capacity}
use Rattle.image_tables.specs.Tables.{Tables, is_slab, tables_of}
use Rattle.heap_model.specs.Machine.{Range, slab_block}
use Rattle.heap_check.specs.Heap.{Holds}
use Rattle.image_reading.specs.declared.slab.Slab.{Slab}
use Rattle.image_reading.specs.Slabs.{IsSlabAt, IsRead}
use Rattle.image_defects.specs.Headers.{IsGoodSlab}

-- the slab holds a block there
pub record IsHeldBy (t : Tables) (start at : ℕ) : Type 0 where
  pub range : Range
  pub holds : Holds t start range
  pub here : range.at ≡ at

-- the block of a set bit, and of a live index entry, is there
pub record HasBitAt (t : Tables) (start at : ℕ) : Type 0 where
  pub number : ℕ
  pub below : number < class_capacity (t.header start).class
  pub set : (t.header start).bit number ≡ true
  pub is : at ≡ (slab_block start (t.header start).class number).at

pub record HasOldAt (t : Tables) (start at : ℕ) : Type 0 where
  pub place : ℕ
  pub below : place < (t.header start).index_count
  pub live : (t.header start).live place ≡ true
  pub is : at ≡ (slab_block start (t.header start).old ((t.header start).number place)).at

-- it is the number of the block of a class at an address
pub record IsNumberAt (start class at number : ℕ) : Type 0 where
  pub below : number < class_capacity class
  pub is : at ≡ (slab_block start class number).at

pub record HasNoNumber (start class at : ℕ) : Type 0 where
  pub none : (number : ℕ) → ¬ (IsNumberAt start class at number)

-- the slabs are good, and lie among the words
pub record AreSlabsAt (words : List ℕ) : Type 0 where
  pub at : (start : ℕ) → is_slab words start ≡ true → IsSlabAt words start
  pub good : (start : ℕ) → is_slab words start ≡ true → IsGoodSlab words start

-- no slab begins so many granules before another granule, or this one does, as it was read
pub record HasNoBack (words : List ℕ) (last back : ℕ) : Type 0 where
  pub none : (start : ℕ) → start + back ≡ last → (tables_of words).slab start ≡ false

pub record IsReadBack (words : List ℕ) (last back : ℕ) (slab : Slab) : Type 0 where
  pub is : slab.start + back ≡ last
  pub read : IsRead words slab
