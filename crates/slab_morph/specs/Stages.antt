-- How the header of a slab changes while the slab takes another class, and what each step leaves, also after a crash
-- within it.
use Rattle.std.specs.Prelude.{◌≡◌, ◌⊎◌, ◌↔◌, ◌||◌, nat_lt, ℕ, ◌+◌, ◌<◌, ◌≤◌, min, true, false, List, length, slice_index, if◌then◌else◌}
use Rattle.pmem_lines.specs.Words.{word_at}
use Rattle.size_classes.specs.Classes.{class_capacity}
use Rattle.pool_layout.specs.Places.{granule_word, blocks_place, line_place}
use Rattle.image_tables.specs.Forms.{normal_kind, morphing_kind, morphed_kind, IsStateWord, IsIndexWord}
use Rattle.image_tables.specs.Tables.{Tables, is_slab, AreSlabsInHeap, state_word, index_word, tables_of, SlabHeader}
use Rattle.slab_header.specs.declared.state.SlabState.{SlabState}
use Rattle.slab_header.specs.declared.state.SlabState.TheVariants.{Normal, Morphing, Morphed}
use Rattle.slab_header.specs.State.{kind_of, class_of, old_of, entries_of}
use Rattle.slab_header.specs.Morph.{numbers_below}
use Rattle.heap_model.specs.Machine.{Range}
use Rattle.heap_check.specs.Heap.{Holds}
use Rattle.heap_check.specs.Sound.{IsValidSlab}
use Rattle.slab_morph.specs.SlabHeaders.{header_at, alone}
use Rattle.slab_morph.specs.Fitness.{IsFitHeader}
use Rattle.image_tables.specs.Updates.{put_header}

-- changes of a header

-- the blocks of a class whose bits are set, by number
abbrev pub numbers_of : SlabHeader → ℕ → List ℕ
numbers_of h class = numbers_below h.bit (class_capacity class)

-- those of the slab's own class
abbrev pub set_numbers : SlabHeader → List ℕ
set_numbers h = numbers_of h h.class

-- old blocks stand in the first places of the index table, live
abbrev pub with_index : SlabHeader → List ℕ → SlabHeader
with_index h numbers = record h {
  live = λ place. nat_lt place (length numbers) || h.live place;
  number = λ place. if nat_lt place (length numbers) then slice_index numbers place else h.number place;
}

-- the state word says this
abbrev pub with_state : SlabHeader → SlabState → SlabHeader
with_state h state = record h { kind = kind_of state; class = class_of state; old = old_of state; index_count = entries_of state }

-- no bit is set
abbrev pub with_no_bit : SlabHeader → SlabHeader
with_no_bit h = record h { bit = λ i. false }

-- a normal slab begins to take a class: its blocks stand in the index table, and the state word says that they are read
-- there
abbrev pub morphing : SlabHeader → ℕ → SlabHeader
morphing h class = with_state (with_index h (set_numbers h)) (Morphing class h.class (length (set_numbers h)))

-- it comes to the class: no bit is set, and the state word says that bits are read
abbrev pub finished : SlabHeader → SlabHeader
finished h = with_state (with_no_bit h) (Morphed h.class h.old h.index_count)

-- both
abbrev pub morphed : SlabHeader → ℕ → SlabHeader
morphed h class = finished (morphing h class)

-- the last old block is gone
abbrev pub settled : SlabHeader → SlabHeader
settled h = with_state h (Normal h.class)

-- stages

-- the state words of two headers say the same
pub record IsSameState (h g : SlabHeader) : Type 0 where
  pub kind : g.kind ≡ h.kind
  pub class : g.class ≡ h.class
  pub old : g.old ≡ h.old
  pub index_count : g.index_count ≡ h.index_count

-- the second header says what the first does, but in its index table
pub record IsSameButIndex (h g : SlabHeader) : Type 0 where
  pub state : IsSameState h g
  pub bit : g.bit ≡ h.bit

-- the second header says what the first does, but in its bits
pub record IsSameButBits (h g : SlabHeader) : Type 0 where
  pub state : IsSameState h g
  pub live : g.live ≡ h.live
  pub number : g.number ≡ h.number

-- while it comes to its class: in Morphing, with any bits, or in Morphed, with none
abbrev pub IsFinishStage : SlabHeader → SlabHeader → Type 0
IsFinishStage h g = IsSameButBits h g ⊎ (g ≡ finished h)

-- while it takes a class: normal as before, with anything in its index table, or on its way as above
abbrev pub IsMorphStage : SlabHeader → ℕ → SlabHeader → Type 0
IsMorphStage h class g = IsSameButIndex h g ⊎ IsFinishStage (morphing h class) g

-- while it is told that the last old block is gone
abbrev pub IsSettleStage : SlabHeader → SlabHeader → Type 0
IsSettleStage h g = (g ≡ h) ⊎ (g ≡ settled h)

-- when

-- The slab at a granule is normal and holds a block, and it is fit for the class.
pub record IsMorphable (words : List ℕ) (start class : ℕ) : Type 0 where
  pub valid : IsStateWord (word_at words (state_word start))
  pub normal : (header_at words start).kind ≡ normal_kind
  pub some : 0 < length (set_numbers (header_at words start))
  pub fit : IsFitHeader (header_at words start) start class

-- it is on its way to a class
pub record IsOnItsWay (words : List ℕ) (start : ℕ) : Type 0 where
  pub valid : IsStateWord (word_at words (state_word start))
  pub kind : (header_at words start).kind ≡ morphing_kind

-- it took a class, and no old block lives
pub record IsDone (words : List ℕ) (start : ℕ) : Type 0 where
  pub valid : IsStateWord (word_at words (state_word start))
  pub kind : (header_at words start).kind ≡ morphed_kind
  pub none : (place : ℕ) → place < (header_at words start).index_count → (header_at words start).live place ≡ false

-- how many events it takes
abbrev pub morph_count : SlabHeader → ℕ
morph_count h = length (set_numbers h) + min (length (set_numbers h)) 8 + 80

-- what is left

-- only some of so many words from one on differ
pub record IsOff (words : List ℕ) (from count : ℕ) (image : List ℕ) : Type 0 where
  pub same_length : length image ≡ length words
  pub others : (k : ℕ) → (k < from) ⊎ (from + count ≤ k) → word_at image k ≡ word_at words k

-- only words of the header at a granule differ; of its state word, its bitmap, its index table
abbrev pub IsOffHeader : List ℕ → ℕ → List ℕ → Type 0
IsOffHeader words start image = IsOff words (granule_word start) blocks_place image

abbrev pub IsOffState : List ℕ → ℕ → List ℕ → Type 0
IsOffState words start image = IsOff words (state_word start) 1 image

abbrev pub IsOffBitmap : List ℕ → ℕ → List ℕ → Type 0
IsOffBitmap words start image = IsOff words (granule_word start + line_place 1 0) 64 image

abbrev pub IsOffIndex : List ℕ → ℕ → List ℕ → Type 0
IsOffIndex words start image = IsOff words (index_word start 0) 64 image

-- Only words of the header differ, and the header is as a stage has it. Where the slab is one of an arena, the header is
-- all that changes of what the words say.
pub record LeavesHeader (words : List ℕ) (start : ℕ) (Stage : SlabHeader → Type 0) (image : List ℕ) : Type 0 where
  pub off : IsOffHeader words start image
  pub header : Stage (header_at image start)
  pub tables : AreSlabsInHeap words → is_slab words start ≡ true → tables_of image ≡ put_header (tables_of words) start (header_at image start)

-- by both headers a slab at a granule holds the same blocks
pub record HoldSame (start : ℕ) (h g : SlabHeader) : Type 0 where
  pub each : (range : Range) → Holds (alone g) start range ↔ Holds (alone h) start range

-- every slab of an arena holds the same blocks
pub record AllHoldSame (t u : Tables) : Type 0 where
  pub each : (start : ℕ) (range : Range) → Holds u start range ↔ Holds t start range

-- the state word and the index entries of the header are valid
pub record IsValidHeader (words : List ℕ) (start : ℕ) : Type 0 where
  pub state : IsStateWord (word_at words (state_word start))
  pub index : (place : ℕ) → place < (header_at words start).index_count → IsIndexWord (word_at words (index_word start place))
  pub slab : IsValidSlab (header_at words start)

-- What a step leaves, and a crash within it: words outside the slab's header stay, and so does what the slab holds; a valid
-- header is so still; and where the slab is one of an arena, what every slab holds stays.
pub record KeepsHeld (words : List ℕ) (start : ℕ) (Stage : SlabHeader → Type 0) (image : List ℕ) : Type 0 where
  pub left : LeavesHeader words start Stage image
  pub held : HoldSame start (header_at words start) (header_at image start)
  pub valid : IsValidHeader words start → IsValidHeader image start
  pub all_held : AreSlabsInHeap words → is_slab words start ≡ true → AllHoldSame (tables_of words) (tables_of image)

-- Only words of the header differ, and it changes this way; where the slab is one of an arena, so do the tables, and in
-- nothing else.
pub record Changes (words new : List ℕ) (start : ℕ) (change : SlabHeader → SlabHeader) : Type 0 where
  pub off : IsOffHeader words start new
  pub header : header_at new start ≡ change (header_at words start)
  pub tables : AreSlabsInHeap words → is_slab words start ≡ true → tables_of new ≡ put_header (tables_of words) start (change ((tables_of words).header start))
