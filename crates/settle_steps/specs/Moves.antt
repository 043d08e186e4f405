-- An open move entry is settled: the events, and what it leaves.
use Rattle.std.specs.Prelude.{◌≡◌, ◌⊎◌, ◌&&◌, nat_lt, ℕ, ◌*◌, Bool, List, [], ◌++◌, None, if◌then◌else◌}
use Rattle.pmem_lines.specs.Words.{put_word}
use Rattle.pmem_lines.specs.declared.event.Event.{Event}
use Rattle.durable_steps.specs.Steps.{word_events}
use Rattle.pool_layout.specs.Places.{root_word, wal_word}
use Rattle.image_tables.specs.declared.entry.WalEntry.TheVariants.{Move}
use Rattle.image_tables.specs.Tables.{tables_of}
use Rattle.image_tables.specs.Updates.{put_at}
use Rattle.heap_check.specs.Sound.{LoosensNothing}
use Rattle.attach_steps.specs.Steps.{root_events}
use Rattle.settle_steps.specs.Settled.{IsOpenIn, IsSettled}

-- both roots have a word
abbrev pub both_named : List ℕ → ℕ → ℕ → Bool
both_named words from to = nat_lt 0 ((tables_of words).word from) && nat_lt 0 ((tables_of words).word to)

-- the one that the block moves from gets 0, where it is so
abbrev pub release_events : ℕ → Bool → List Event
release_events from both = if both then root_events from 0 else []

-- then the entry is closed
abbrev pub move_events : List ℕ → ℕ → ℕ → ℕ → List Event
move_events words line from to = release_events from (both_named words from to) ++ word_events (8 * wal_word line) 0

-- the words, with that root's word 0 where it is so
abbrev pub released : List ℕ → ℕ → Bool → List ℕ
released words from both = if both then put_word words (root_word from) 0 else words

-- after a crash within it that is done or not
abbrev pub ReleasesOrNot : List ℕ → ℕ → Bool → List ℕ → Type 0
ReleasesOrNot words from both image = (image ≡ words) ⊎ (image ≡ released words from both)

-- the entry is open, in this line
abbrev pub IsOpenForMove : List ℕ → ℕ → ℕ → ℕ → Type 0
IsOpenForMove words line from to = IsOpenIn words line (Move from to)

-- The root that the block moves from has no word where both had one, no entry is open, and the image says the same of all
-- else: each root holds what it held. Nothing comes to be loose.
pub record IsMoveSettled (words : List ℕ) (line from to : ℕ) (new : List ℕ) : Type 0 where
  pub settled : IsSettled words line (root_word from) new
  pub tables : tables_of new
      ≡ record (tables_of words) { word = if both_named words from to then put_at (tables_of words).word from 0 else (tables_of words).word; open_entry = None }
  pub loose : LoosensNothing (tables_of words) (tables_of new)
