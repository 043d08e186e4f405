-- What `repair` makes of the words of an arena: its recovered image.
use Rattle.std.specs.Prelude.{◌≡◌, ℕ, ◌^◌, ◌<◌, List, ◌++◌, length}
use Rattle.std.specs.List.{All}
use Rattle.pmem_lines.specs.declared.event.Event.{Event}
use Rattle.pmem_lines.specs.Events.{reading}
use Rattle.pool_layout.specs.Bytes.{bytes_of_words}
use Rattle.image_tables.specs.Tables.{tables_of}
use Rattle.heap_check.specs.Image.{header_in, IsSoundImage, IsExactImage}
use Rattle.heap_check.specs.State.{HaveSameHeap, KeepsBlocks}
use Rattle.recovery_steps.specs.Parts.{KeepsClasses}
use Rattle.recovery_steps.specs.Recovery.{RecoversSound}

-- the new words are what the events of a recovery of the old ones make of these
pub record HasRecoveryOf (words new : List ℕ) : Type 0 where
  pub events : List Event
  pub stores : RecoversSound words events
  pub is : new ≡ reading words events

-- The words are sound, and the new ones are an exact image, as long and with the same header line, with the heap of the old
-- ones, in which each block has the words that it had; each live slab was one of the same class. Exact words stay as they are.
pub record IsRepaired (words new : List ℕ) : Type 0 where
  pub sound : IsSoundImage words
  pub size : length new ≡ length words
  pub header : header_in new ≡ header_in words
  pub exact : IsExactImage new
  pub heap : HaveSameHeap words new
  pub blocks : KeepsBlocks words new
  pub slabs : KeepsClasses (tables_of words) (tables_of new)
  -- what was stored
  pub recovery : HasRecoveryOf words new
  pub still : IsExactImage words → new ≡ words

-- for the functions below

-- each word is one of 64 bits
abbrev pub AreWholeWords : List ℕ → Type 0
AreWholeWords words = All (λ word. word < 2 ^ 64) words

-- the bytes of words that stand so to an arena's are added behind others
pub record AddsPart (Is : List ℕ → List ℕ → Type 0) (words old new : List ℕ) : Type 0 where
  pub own : List ℕ
  pub part : Is words own
  pub fit : AreWholeWords own
  pub is : new ≡ old ++ bytes_of_words own
