-- Laws of images of this variant: over their tables, of the state that an exact one has, and of defects.
use Rattle.std.specs.Prelude.{◌≡◌, ℕ, false, List, None}
use Rattle.pool_layout.specs.declared.defect.Defect.{Defect}
use Rattle.image_tables.specs.Tables.{Tables}
use Rattle.heap_model.specs.Machine.{Bounds, Machine, IsOverlapFree}
use Rattle.heap_check.specs.Image.{bounds_of}
use Rattle.gc_check.specs.Heap.{gc_heap}
use Rattle.gc_check.specs.Sound.{IsGcExact}
use Rattle.gc_check.specs.Image.{IsGcSoundImage, IsGcExactImage}
use Rattle.gc_check.specs.State.{HasGcState}
use Rattle.gc_check.specs.Defects.{IsFirstGcDefect, IsGcFaultless}

-- the tables say that there is nothing: no root has a word, and no extent is live
pub record AreGcBlank (t : Tables) : Type 0 where
  pub words : (root : ℕ) → t.word root ≡ 0
  pub roots : (root : ℕ) → t.root root ≡ 0
  pub no_large : (start : ℕ) → t.large start ≡ 0
  pub no_slab : (start : ℕ) → t.slab start ≡ false

-- an image of which the tables say nothing is exact, and has no block
abbrev pub LawOfEmptyGcHeap : Type 0
LawOfEmptyGcHeap = (b : Bounds) (t : Tables) → AreGcBlank t → IsGcExact b t × ((root : ℕ) → gc_heap t root ≡ None)

-- The state of an exact image is free of overlaps: its blocks are apart, each lies where its size says, and slabs and large blocks
-- keep clear of each other in the arena's heap.
abbrev pub LawOfExactGcState : Type 0
LawOfExactGcState = (words : List ℕ) (m : Machine) → IsGcExactImage words → HasGcState words m → IsOverlapFree (bounds_of words) m

-- an image without a defect is sound, and a sound one has none
abbrev pub LawOfGcFaultless : Type 0
LawOfGcFaultless = (words : List ℕ) → (IsGcFaultless words → IsGcSoundImage words) × (IsGcSoundImage words → IsGcFaultless words)

-- a sound image has no first defect
abbrev pub LawOfNoGcDefect : Type 0
LawOfNoGcDefect = (words : List ℕ) (defect : Defect) → IsGcSoundImage words → ¬ (IsFirstGcDefect words defect)

-- there is one first defect at most
abbrev pub LawOfOneGcDefect : Type 0
LawOfOneGcDefect = (words : List ℕ) (defect other : Defect) → IsFirstGcDefect words defect → IsFirstGcDefect words other → defect ≡ other
