-- A slab in transition comes to its class, or to the end of its transition: the events, when it may be, and what it leaves.
use Rattle.std.specs.Prelude.{◌≡◌, ◌≢◌, ◌⊎◌, ℕ, true, List, Some, None}
use Rattle.pmem_lines.specs.declared.event.Event.{Event}
use Rattle.image_tables.specs.declared.entry.WalEntry.TheVariants.{Place}
use Rattle.image_tables.specs.Tables.{Tables, tables_of}
use Rattle.slab_header.specs.Morph.{finish_morph_events, finish_old_events}
use Rattle.slab_morph.specs.Stages.{finished, settled, IsOffHeader, AllHoldSame}
use Rattle.heap_check.specs.Sound.{IsInSlab, IsLooseLarge, IsEmptySlab, IsMorphing, IsDoneSlab, IsNearlyDone, LoosensNothing}
use Rattle.heap_check.specs.Image.{bounds_of, IsSoundImage, IsSteadyImage}
use Rattle.heap_check.specs.State.{HaveSameHeap, KeepsBlocks}
use Rattle.settle_steps.specs.Settled.{KeepsHeap}
use Rattle.image_tables.specs.Updates.{put_header}

-- events

-- the bitmap is cleared, and then the state word says Morphed
abbrev pub finish_events : List ℕ → ℕ → List Event
finish_events words start = let t = tables_of words in finish_morph_events start (t.header start).class (t.header start).old (t.header start).index_count

-- the state word says Normal
abbrev pub end_events : List ℕ → ℕ → List Event
end_events words start = finish_old_events start ((tables_of words).header start).class

-- when

-- the image is steady, and the slab at the granule is in Morphing; so no entry is open
pub record IsInMorphing (words : List ℕ) (start : ℕ) : Type 0 where
  pub image : IsSteadyImage words
  pub here : IsMorphing (tables_of words) start

-- The image is sound, and the slab at the granule is in Morphed without a live old block; no entry of one of its old blocks
-- is open.
pub record IsEndable (words : List ℕ) (start : ℕ) : Type 0 where
  pub image : IsSoundImage words
  pub here : IsDoneSlab (tables_of words) start
  pub elsewhere : (root at place : ℕ) → (tables_of words).open_entry ≡ Some (Place root at true place) → ¬ (IsInSlab (tables_of words) start at)

-- what is left

-- where the words were steady, a crash leaves them steady with the same heap, in which each block has its words
abbrev pub LeavesHeap : List ℕ → List ℕ → Type 0
LeavesHeap words image = IsSteadyImage words → KeepsHeap words image

-- so it does, and the open entry stays
pub record LeavesEntry (words image : List ℕ) : Type 0 where
  pub entry : (tables_of image).open_entry ≡ (tables_of words).open_entry
  pub keeps : LeavesHeap words image

-- Nothing comes to be loose, but that the slab at the granule may be done; and no slab is in Morphing.
pub record LoosensDone (t new : Tables) (start : ℕ) : Type 0 where
  pub large : (other : ℕ) → IsLooseLarge new other → IsLooseLarge t other
  pub empty : (other : ℕ) → IsEmptySlab new other → IsEmptySlab t other
  pub none_morphing : (other : ℕ) → ¬ (IsMorphing new other)
  pub done : (other : ℕ) → IsDoneSlab new other → IsDoneSlab t other ⊎ (other ≡ start)

-- The slab is in Morphed, and the image says the same of all else; it is steady with the same heap, and no entry is open.
pub record IsFinished (words : List ℕ) (start : ℕ) (new : List ℕ) : Type 0 where
  pub keeps : KeepsHeap words new
  pub off : IsOffHeader words start new
  pub tables : tables_of new ≡ put_header (tables_of words) start (finished ((tables_of words).header start))
  pub closed : (tables_of new).open_entry ≡ None
  pub loose : LoosensDone (tables_of words) (tables_of new) start

-- The slab is normal, and the image says the same of all else; it is sound with the same heap, and each block has its words.
-- Nothing comes to be loose, and of the slabs that are nearly done it is one no more.
pub record IsEnded (words : List ℕ) (start : ℕ) (new : List ℕ) : Type 0 where
  pub image : IsSoundImage new
  pub steady : IsSteadyImage words → IsSteadyImage new
  pub heap : HaveSameHeap words new
  pub blocks : KeepsBlocks words new
  pub off : IsOffHeader words start new
  pub bounds : bounds_of new ≡ bounds_of words
  pub tables : tables_of new ≡ put_header (tables_of words) start (settled ((tables_of words).header start))
  pub held : AllHoldSame (tables_of words) (tables_of new)
  pub loose : LoosensNothing (tables_of words) (tables_of new)
  pub nearly : (other : ℕ) → IsNearlyDone (tables_of new) other → IsNearlyDone (tables_of words) other × (other ≢ start)
