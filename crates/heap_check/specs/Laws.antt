-- Laws of images: over their tables, and of the state that an exact one has.
use Rattle.std.specs.Prelude.{◌≡◌, ℕ, false, List, None}
use Rattle.image_tables.specs.Tables.{Tables}
use Rattle.heap_model.specs.Machine.{Bounds, Machine, IsOverlapFree}
use Rattle.heap_check.specs.Heap.{heap}
use Rattle.heap_check.specs.Sound.{IsExact, IsSteady}
use Rattle.heap_check.specs.Image.{bounds_of, IsExactImage}
use Rattle.heap_check.specs.State.{HasState}

-- the tables say that there is nothing: no root has a word, no entry is open, and no extent is live
pub record AreBlank (t : Tables) : Type 0 where
  pub roots : (root : ℕ) → t.root root ≡ 0
  pub closed : t.open_entry ≡ None
  pub no_large : (start : ℕ) → t.large start ≡ 0
  pub no_slab : (start : ℕ) → t.slab start ≡ false

-- an image of which the tables say nothing is exact, and has no block
abbrev pub LawOfEmptyHeap : Type 0
LawOfEmptyHeap = (b : Bounds) (t : Tables) → AreBlank t → IsExact b t × ((root : ℕ) → heap t root ≡ None)

-- an exact image is steady where each slab in transition has a live old block, which exactness says
abbrev pub LawOfSteady : Type 0
LawOfSteady = (b : Bounds) (t : Tables) → IsExact b t → IsSteady b t

-- The state of an exact image is free of overlaps: its blocks are apart, each lies where its size says, and slabs and
-- large blocks keep clear of each other in the arena's heap.
abbrev pub LawOfExactState : Type 0
LawOfExactState = (words : List ℕ) (m : Machine) → IsExactImage words → HasState words m → IsOverlapFree (bounds_of words) m
