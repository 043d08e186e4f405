-- Chunks that are not active get entries, and then the directory names others: the events. One fence makes the entries
-- durable before the directory is stored, so that at no moment an active chunk's entries are in doubt.
use Rattle.std.specs.Prelude.{ℕ, zero, suc, ◌+◌, ◌*◌, ◌/◌, List, [], ◌∷◌, ◌++◌, drop, slice_index}
use Rattle.pmem_lines.specs.declared.event.Event.{Event}
use Rattle.pmem_lines.specs.declared.event.Event.TheVariants.{Store, Fence}
use Rattle.pmem_lines.specs.Events.{IsQuiet}
use Rattle.pool_layout.specs.Layout.{layout_of}
use Rattle.pool_layout.specs.Places.{directory_word, chunk_word, entry_lines, entry_slot}
use Rattle.durable_steps.specs.Rows.{flushes_of}
use Rattle.durable_steps.specs.Steps.{word_events}
use Rattle.book_log.specs.Log.{directory_of}

-- the stores of n entries of a chunk from one on, by rising number
abbrev pub entry_stores : ℕ → ℕ → (ℕ → ℕ) → ℕ → ℕ → List Event
entry_stores version chunk value entry zero = []
entry_stores version chunk value entry (suc n) = Store (8 * entry_slot version chunk entry) (value entry) ∷ entry_stores version chunk value (entry + 1) n

-- a chunk's entries are all stored, and then its lines are flushed
abbrev pub fill_events : ℕ → ℕ → (ℕ → ℕ) → List Event
fill_events version chunk value =
    entry_stores version chunk value 0 (layout_of version).chunk_entries ++ flushes_of (chunk_word version chunk / 8 + 1) (entry_lines version)

-- how many events that is
abbrev pub fill_count : ℕ → ℕ
fill_count version = (layout_of version).chunk_entries + entry_lines version

-- entries are put into chunks, to each as many as it has room for, and zeros behind the last
abbrev pub copy_events : ℕ → List ℕ → List ℕ → List Event
copy_events version [] entries = []
copy_events version (chunk ∷ chunks) entries =
    fill_events version chunk (slice_index entries) ++ copy_events version chunks (drop (layout_of version).chunk_entries entries)

-- all that was stored is flushed: a fence makes it durable
abbrev pub IsFlushed : List Event → Type 0
IsFlushed events = IsQuiet (events ++ Fence ∷ [])

-- a fence makes the entries durable, and then the directory names the active chunks
abbrev pub directory_events : List ℕ → List Event
directory_events active = Fence ∷ word_events (8 * directory_word) (directory_of active)

-- entries are put into chunks, and then the directory names the active chunks
abbrev pub switch_events : ℕ → List ℕ → List ℕ → List ℕ → List Event
switch_events version fresh entries active = copy_events version fresh entries ++ directory_events active

-- how many events that is with so many fresh chunks
abbrev pub switch_count : ℕ → ℕ → ℕ
switch_count version fresh = fill_count version * fresh + 4
