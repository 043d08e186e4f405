-- When an image of this variant is sound, part by part, over its tables, and when nothing in it is loose.
use Rattle.std.specs.Prelude.{◌≡◌, ◌≢◌, ◌⊎◌, ℕ, ◌-◌, ◌*◌, ◌/◌, ◌<◌, Bool, true, Some}
use Rattle.size_classes.specs.Classes.{class_capacity}
use Rattle.image_tables.specs.Tables.{Tables}
use Rattle.heap_model.specs.Machine.{Bounds, Range, AreApart, slab_block}
use Rattle.heap_check.specs.Heap.{is_large}
use Rattle.heap_check.specs.Sound.{AreExtents, Covers, IsInSlab, AtMostOne, IsLooseLarge, IsEmptySlab}
use Rattle.gc_check.specs.Heap.{address_field, class_field, IsGcRootWord, gc_heap}

-- roots

-- a block of a class stands at the address, in a slab of whatever class
pub record IsClassBlock (slabs : ℕ → Bool) (class at : ℕ) : Type 0 where
  pub start : ℕ
  pub number : ℕ
  pub slab : slabs start ≡ true
  pub below : number < class_capacity class
  pub is : at ≡ (slab_block start class number).at

-- a block of this class field may stand at the address: a live large extent starts there, or a slab has such a block there
abbrev pub StandsAt : (ℕ → ℕ) → (ℕ → Bool) → (field at : ℕ) → Type 0
StandsAt large slabs field at = ((field ≡ 0) × (is_large large at ≡ true)) ⊎ ((0 < field) × IsClassBlock slabs (field - 1) at)

-- a root's word is one, and its block may stand where it says
pub record IsGcStandingBy (large : ℕ → ℕ) (slabs : ℕ → Bool) (word : ℕ) : Type 0 where
  pub form : IsGcRootWord word
  pub stands : StandsAt large slabs (class_field word) (address_field word)

abbrev pub IsGcStanding : Tables → ℕ → Type 0
IsGcStanding t = IsGcStandingBy t.large t.slab

-- the extent at a start is the one in which the block of a word begins
abbrev pub IsExtentOf : Tables → (word start : ℕ) → Type 0
IsExtentOf t word start = Covers t start (address_field word / 16384)

-- the blocks of two roots are apart
abbrev pub AreGcApart : Tables → Type 0
AreGcApart t = (root other : ℕ) (range another : Range) → root ≢ other → gc_heap t root ≡ Some range → gc_heap t other ≡ Some another → AreApart range another

-- what each root's word says stands where a block may, and no two roots' blocks overlap
pub record AreGcOwned (t : Tables) : Type 0 where
  pub rooted : (root : ℕ) → t.word root ≢ 0 → IsGcStanding t (t.word root)
  pub apart : AreGcApart t

-- loose things

-- at most one large extent that no root names, and one slab in which no root's block lies
pub record AreFewGcLoose (t : Tables) : Type 0 where
  pub large : AtMostOne (IsLooseLarge t)
  pub empty : AtMostOne (IsEmptySlab t)

-- The image is sound.
pub record IsGcSound (b : Bounds) (t : Tables) : Type 0 where
  pub extents : AreExtents b t.large t.slab
  pub classes : (start : ℕ) → t.slab start ≡ true → (t.header start).class < 36
  pub owned : AreGcOwned t
  pub loose : AreFewGcLoose t

-- The image is exact: sound with nothing loose.
pub record IsGcExact (b : Bounds) (t : Tables) : Type 0 where
  pub sound : IsGcSound b t
  pub all_named : (start : ℕ) → 0 < t.large start → (root : ℕ) × (t.root root ≡ 16384 * start)
  pub all_live : (start : ℕ) → t.slab start ≡ true → (root : ℕ) × (t.root root ≢ 0) × IsInSlab t start (t.root root)

-- The image is exact, but that no root may name the large extent at a start, or have a block in the slab there.
pub record IsGcExactBut (b : Bounds) (t : Tables) (start : ℕ) : Type 0 where
  pub sound : IsGcSound b t
  pub others_named : (other : ℕ) → other ≢ start → 0 < t.large other → (root : ℕ) × (t.root root ≡ 16384 * other)
  pub others_live : (other : ℕ) → other ≢ start → t.slab other ≡ true → (root : ℕ) × (t.root root ≢ 0) × IsInSlab t other (t.root root)
