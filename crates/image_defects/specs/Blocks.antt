-- Defects of blocks: two roots whose blocks overlap, and a block of a slab that is no root's. The block of an open place
-- entry counts as its root's.
use Rattle.std.specs.Prelude.{◌≡◌, ◌≢◌, ℕ, ◌+◌, ◌<◌, List}
use Rattle.pool_layout.specs.declared.defect.Defect.{Defect}
use Rattle.pool_layout.specs.declared.defect.Defect.TheVariants.{SharedBlock, StrayBit}
use Rattle.image_tables.specs.Tables.{Tables, tables_of}
use Rattle.heap_model.specs.Machine.{Range}
use Rattle.heap_check.specs.Heap.{IsClaim, Holds}
use Rattle.image_defects.specs.declared.found.Pair.{Pair}
use Rattle.image_defects.specs.Least.{HasNone, IsLeast}

-- shared blocks

-- two blocks share a byte
pub record DoOverlap (range another : Range) : Type 0 where
  pub begins : another.at < range.at + range.size
  pub ends : range.at < another.at + another.size

-- the blocks of two roots overlap
pub record HasShared (t : Tables) (root other : ℕ) : Type 0 where
  pub differ : root ≢ other
  pub range : Range
  pub another : Range
  pub claim : IsClaim t root range
  pub second : IsClaim t other another
  pub overlap : DoOverlap range another

-- the block of a root overlaps that of some other
pub record IsSharing (t : Tables) (root : ℕ) : Type 0 where
  pub other : ℕ
  pub shared : HasShared t root other

-- of the pairs that overlap the one with the lowest first root, and then the lowest second
pub record IsFirstShared (t : Tables) (pair : Pair) : Type 0 where
  pub first : IsLeast (IsSharing t) pair.first
  pub second : IsLeast (HasShared t pair.first) pair.second

-- no blocks overlap
abbrev pub AreUnshared : Tables → Type 0
AreUnshared t = HasNone (IsSharing t)

pub record IsSharedDefect (words : List ℕ) (defect : Defect) : Type 0 where
  pub pair : Pair
  pub first : IsFirstShared (tables_of words) pair
  pub is : defect ≡ SharedBlock pair.first pair.second

-- stray blocks

-- the block of a root
pub record IsRooted (t : Tables) (range : Range) : Type 0 where
  pub root : ℕ
  pub claim : IsClaim t root range

-- every block that a slab holds is a root's
abbrev pub AreRooted : Tables → Type 0
AreRooted t = (start : ℕ) (range : Range) → Holds t start range → IsRooted t range

-- a slab holds a block at the address that is no root's
pub record IsStray (t : Tables) (start at : ℕ) : Type 0 where
  pub size : ℕ
  pub holds : Holds t start (record { at = at; size = size })
  pub none : ¬ (IsRooted t (record { at = at; size = size }))

-- some slab does
pub record IsStrayAddress (t : Tables) (at : ℕ) : Type 0 where
  pub start : ℕ
  pub stray : IsStray t start at

-- the lowest such address
pub record IsBitDefect (words : List ℕ) (defect : Defect) : Type 0 where
  pub at : ℕ
  pub first : IsLeast (IsStrayAddress (tables_of words)) at
  pub is : defect ≡ StrayBit at
