-- What recovery stores, part by part: where a part finds nothing to do, it stores nothing.
use Rattle.std.specs.Prelude.{◌≡◌, ◌⊎◌, ℕ, ◌<◌, List, [], None}
use Rattle.pmem_lines.specs.Words.{word_at}
use Rattle.pmem_lines.specs.declared.event.Event.{Event}
use Rattle.pool_layout.specs.Places.{wal_word}
use Rattle.image_tables.specs.declared.entry.WalEntry.{WalEntry}
use Rattle.image_tables.specs.Tables.{tables_of}
use Rattle.attach_wal.specs.Entry.{IsEntryWord}
use Rattle.book_log.specs.declared.entry.LogEntry.TheVariants.{Tomb}
use Rattle.heap_check.specs.Sound.{IsLooseLarge, IsEmptySlab, IsMorphing, IsDoneSlab}
use Rattle.image_defects.specs.Least.{HasNone}
use Rattle.log_steps.specs.Events.{log_events}
use Rattle.extent_steps.specs.Slabs.{drop_events}
use Rattle.settle_steps.specs.Entries.{settle_events, LiesInSlab}
use Rattle.transition_steps.specs.Transitions.{finish_events, end_events}
use Rattle.recovery_steps.specs.Nearly.{IsDoneBesides}
use Rattle.recovery_steps.specs.Parts.{Then}

-- the open entry

-- the word of this line is that of an entry, whose block lies in the slab at a granule; it is settled, and closed
pub record IsSettling (words : List ℕ) (events : List Event) : Type 0 where
  pub line : ℕ
  pub entry : WalEntry
  pub start : ℕ
  pub below : line < 8
  pub here : IsEntryWord (word_at words (wal_word line)) entry
  pub slab : LiesInSlab (tables_of words) start entry
  pub is : events ≡ settle_events words line start entry

abbrev pub SettlesOpen : List ℕ → List Event → Type 0
SettlesOpen words events = (((tables_of words).open_entry ≡ None) × (events ≡ [])) ⊎ IsSettling words events

-- loose things, of which there is one of each kind at most

-- the events that a loose thing at a granule takes
pub record IsFor (IsLoose : ℕ → Type 0) (taken : ℕ → List Event) (events : List Event) : Type 0 where
  pub start : ℕ
  pub here : IsLoose start
  pub is : events ≡ taken start

-- they are stored where there is such a thing
abbrev pub TakesOne : (ℕ → Type 0) → (ℕ → List Event) → List Event → Type 0
TakesOne IsLoose taken events = (HasNone IsLoose × (events ≡ [])) ⊎ IsFor IsLoose taken events

-- a slab in Morphing comes to its class
abbrev pub FinishesMorphing : List ℕ → List Event → Type 0
FinishesMorphing words events = TakesOne (IsMorphing (tables_of words)) (finish_events words) events

-- a large extent that no root holds gets a Tomb
abbrev pub DropsLarge : List ℕ → List Event → Type 0
DropsLarge words events = TakesOne (IsLooseLarge (tables_of words)) (λ start. log_events words (Tomb start)) events

-- a slab in which no root's block lies gets a Tomb
abbrev pub DropsSlab : List ℕ → List Event → Type 0
DropsSlab words events = TakesOne (IsEmptySlab (tables_of words)) (drop_events words) events

-- a slab in Morphed without a live old block becomes Normal
abbrev pub EndsDone : List ℕ → List Event → Type 0
EndsDone words events = TakesOne (IsDoneSlab (tables_of words)) (end_events words) events

-- all of it, in this order, from a steady image
abbrev pub Recovers : List ℕ → List Event → Type 0
Recovers words events = Then SettlesOpen (Then FinishesMorphing (Then DropsLarge (Then DropsSlab EndsDone))) words events

-- A slab that is done becomes Normal first, where another is nearly done. In a steady image there is none.
abbrev pub EndsBesides : List ℕ → List Event → Type 0
EndsBesides words events = TakesOne (IsDoneBesides (tables_of words)) (end_events words) events

-- all of it, from a sound image
abbrev pub RecoversSound : List ℕ → List Event → Type 0
RecoversSound words events = Then EndsBesides Recovers words events
