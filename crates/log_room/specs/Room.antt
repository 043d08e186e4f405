-- How the log gets room for an entry: which way, by which events, and what stays the same at each crash.
use Rattle.std.specs.Prelude.{◌≡◌, ◌≢◌, ◌⊎◌, ◌||◌, nat_lt, ℕ, ◌+◌, ◌/◌, ◌<◌, ◌≤◌, List, [], ◌++◌, length, take, Option, Some, None, is_some, if◌then◌else◌}
use Rattle.pmem_lines.specs.declared.event.Event.{Event}
use Rattle.pmem_lines.specs.Words.{word_at}
use Rattle.pool_layout.specs.Layout.{layout_of}
use Rattle.pool_layout.specs.Places.{directory_word, log_start, heap_word}
use Rattle.pool_layout.specs.Header.{version_in}
use Rattle.image_tables.specs.Log.{most_chunks}
use Rattle.image_tables.specs.Extents.{extent_at}
use Rattle.book_log.specs.Book.{HasLog, chunks_of}
use Rattle.log_room.specs.declared.room.Rolled.{Rolled}
use Rattle.log_room.specs.declared.room.Rolled.TheVariants as rolled
use Rattle.log_room.specs.Chunks.{without, spare_chunks, has_space}
use Rattle.log_room.specs.Needless.{first_needless}
use Rattle.log_room.specs.Copies.{switch_events}
use Rattle.book_log.specs.Live.{live_words}

-- the entries of the live extents of an arena of so many granules, by rising start
unfoldable pub live_log : ℕ → List ℕ → List ℕ
live_log granules words = live_words (extent_at words) 0 granules

-- how many chunks a rewrite needs for so many entries, of which the last keeps room for one more
abbrev pub chunks_for : ℕ → ℕ → ℕ
chunks_for version entries = entries / (layout_of version).chunk_entries + 1

-- the active chunks that a roll leaves
abbrev pub kept_chunks : Option ℕ → List ℕ → List ℕ
kept_chunks None active = active
kept_chunks (Some dropped) active = without dropped active

-- how room is made in the log of an arena of so many granules with these active chunks
abbrev pub way_among : ℕ → List ℕ → List ℕ → Rolled
way_among granules words active =
    let dropped = first_needless granules words active in
    if has_space (version_in words) words active then rolled.Nothing
    else (if nat_lt (length active) most_chunks || is_some dropped then rolled.Rolled dropped
    else rolled.Rewritten (chunks_for (version_in words) (length (live_log granules words))))

unfoldable pub way_of : ℕ → List ℕ → Rolled
way_of granules words = way_among granules words (chunks_of words)

-- the chunks that are written anew on the way, where these are active
abbrev pub fresh_chunks : List ℕ → Rolled → List ℕ
fresh_chunks active rolled.Nothing = []
fresh_chunks active (rolled.Rolled dropped) = take 1 (spare_chunks active)
fresh_chunks active (rolled.Rewritten chunks) = take chunks (spare_chunks active)

-- the entries that they get
abbrev pub fresh_entries : ℕ → List ℕ → Rolled → List ℕ
fresh_entries granules words rolled.Nothing = []
fresh_entries granules words (rolled.Rolled dropped) = []
fresh_entries granules words (rolled.Rewritten chunks) = live_log granules words

-- the chunks that are active afterwards
abbrev pub chunks_behind : List ℕ → Rolled → List ℕ
chunks_behind active rolled.Nothing = active
chunks_behind active (rolled.Rolled dropped) = kept_chunks dropped active ++ fresh_chunks active (rolled.Rolled dropped)
chunks_behind active (rolled.Rewritten chunks) = fresh_chunks active (rolled.Rewritten chunks)

-- the events of a way
abbrev pub events_among : ℕ → List ℕ → List ℕ → Rolled → List Event
events_among granules words active rolled.Nothing = []
events_among granules words active (rolled.Rolled dropped) =
    switch_events (version_in words) (fresh_chunks active (rolled.Rolled dropped)) (fresh_entries granules words (rolled.Rolled dropped)) (chunks_behind active (rolled.Rolled dropped))
events_among granules words active (rolled.Rewritten chunks) =
    switch_events (version_in words) (fresh_chunks active (rolled.Rewritten chunks)) (fresh_entries granules words (rolled.Rewritten chunks)) (chunks_behind active (rolled.Rewritten chunks))

-- the events that make room in the log of an arena of so many granules
unfoldable pub room_events : ℕ → List ℕ → List Event
room_events granules words = events_among granules words (chunks_of words) (way_of granules words)

-- How many events an entry has at most that is put into a log of these words, with those that make room for it. Where fewer
-- chunks are active than may be, the log rolls and is not rewritten.
abbrev pub most_events : List ℕ → ℕ
most_events words = if nat_lt (length (chunks_of words)) most_chunks then (layout_of (version_in words)).roll_events else (layout_of (version_in words)).entry_events

-- the log is well formed and has the live extents that it has in the words before, and every word outside the log and
-- the directory is the same
pub record KeepsLog (granules : ℕ) (words image : List ℕ) : Type 0 where
  pub same_length : length image ≡ length words
  pub log : HasLog granules image
  pub extents : (start : ℕ) → extent_at image start ≡ extent_at words start
  pub others : (k : ℕ) → k ≢ directory_word → (k < log_start (version_in words)) ⊎ (heap_word (version_in words) ≤ k) → word_at image k ≡ word_at words k
