-- The events by which an entry is put into the log, as a function of the words before them.
use Rattle.std.specs.Prelude.{◌==◌, nat_lt, ℕ, zero, suc, ◌*◌, List, ◌++◌, if◌then◌else◌}
use Rattle.pmem_lines.specs.declared.event.Event.{Event}
use Rattle.pmem_lines.specs.Events.{reading}
use Rattle.durable_steps.specs.Steps.{word_events}
use Rattle.pool_layout.specs.Layout.{layout_of}
use Rattle.pool_layout.specs.Places.{entry_slot}
use Rattle.pool_layout.specs.Header.{version_in, granules_in}
use Rattle.book_log.specs.declared.entry.LogEntry.{LogEntry}
use Rattle.book_log.specs.Entry.{log_word}
use Rattle.book_log.specs.Log.{logged}
use Rattle.book_log.specs.Book.{last_chunk}
use Rattle.log_room.specs.Room.{room_events}

-- the first of n words of a row that is 0, n where none is
abbrev pub first_zero : (ℕ → ℕ) → ℕ → ℕ
first_zero row zero = 0
first_zero row (suc n) = if nat_lt (first_zero row n) n then first_zero row n else (if row n == 0 then n else suc n)

-- the word that the next entry of the log goes to: the first of the last active chunk that is 0
unfoldable pub next_entry_word : List ℕ → ℕ
next_entry_word words =
    entry_slot (version_in words) (last_chunk words) (first_zero (logged (version_in words) words (last_chunk words)) (layout_of (version_in words)).chunk_entries)

-- an entry is put into the log and made durable, behind the events that make room for it
unfoldable pub log_events : List ℕ → LogEntry → List Event
log_events words entry =
    room_events (granules_in words) words
    ++ word_events (8 * next_entry_word (reading words (room_events (granules_in words) words))) (log_word entry)
