-- A slab takes another class: when it may, and what it leaves of the image of an arena.
use Rattle.std.specs.Prelude.{◌≡◌, ◌≢◌, ℕ, ◌*◌, ◌<◌, ◌≤◌, true, List, None}
use Rattle.size_classes.specs.Classes.{class_capacity}
use Rattle.image_tables.specs.Forms.{normal_kind}
use Rattle.image_tables.specs.Tables.{tables_of}
use Rattle.heap_model.specs.Choice.{IsFit}
use Rattle.heap_model.specs.Slabs.{live_below}
use Rattle.heap_check.specs.Heap.{heap, IsUnusedIn}
use Rattle.heap_check.specs.Image.{bounds_of, IsExactImage}
use Rattle.slab_morph.specs.Fitness.{held_view}
use Rattle.slab_morph.specs.Stages.{morphed, IsOffHeader, AllHoldSame}
use Rattle.settle_steps.specs.Settled.{KeepsHeap}
use Rattle.image_tables.specs.Updates.{put_header}

-- the image is exact, and the slab at the granule is normal and fit for the class, by the blocks that it holds
pub record IsReadyFor (words : List ℕ) (start class : ℕ) : Type 0 where
  pub image : IsExactImage words
  pub slab : (tables_of words).slab start ≡ true
  pub normal : ((tables_of words).header start).kind ≡ normal_kind
  pub fit : IsFit (held_view (tables_of words)) class start

-- A slab of an image is fit for a class, by the blocks that live in it: it has another class; at most 64 blocks live in it,
-- and at most a fifth of those that it holds; and some block of the class in it is unused.
pub record IsFitIn (words : List ℕ) (start class : ℕ) : Type 0 where
  pub differs : class ≢ ((tables_of words).header start).class
  pub few : live_below (heap (tables_of words)) start (bounds_of words).roots ≤ 64
  pub sparse : 5 * live_below (heap (tables_of words)) start (bounds_of words).roots ≤ class_capacity ((tables_of words).header start).class
  pub number : ℕ
  pub below : number < class_capacity class
  pub unused : IsUnusedIn (tables_of words) start class number

-- a crash leaves a steady image with the same heap, in which each block has its words; and no entry is open in it
pub record LeavesClosed (words image : List ℕ) : Type 0 where
  pub keeps : KeepsHeap words image
  pub closed : (tables_of image).open_entry ≡ None

-- The slab has the class, and each block that it held lives on as an old one; the image says the same of all else. It is exact
-- with the same heap, each slab holds what it held, and each block has its words.
pub record IsOfClass (words : List ℕ) (start class : ℕ) (new : List ℕ) : Type 0 where
  pub left : LeavesClosed words new
  pub exact : IsExactImage new
  pub off : IsOffHeader words start new
  pub bounds : bounds_of new ≡ bounds_of words
  pub tables : tables_of new ≡ put_header (tables_of words) start (morphed ((tables_of words).header start) class)
  pub held : AllHoldSame (tables_of words) (tables_of new)
