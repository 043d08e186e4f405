-- A book that reads an arena: what it knows of the live extents, and how many events a way has.
use Rattle.std.proofs.Common.{◌≡◌, ◌+◌, ◌/◌, ◌<◌, ◌≤◌, ⊎_elim, ℕ, true, false, Bool, cond, ltb, List, [], ◌++◌, length, take, refl, sym, ap, ◌∙◌, subst, arith, Option, Some, None}
use Rattle.log_room.proofs.Common.{cases_Bool, lt-ltb, le-ltb, Event, PmemState, words_of, Appends, reading, IsQuiet, appended_none, Appends-state, mul-le, Layout, layout_of, layout_rules, heap_word, version_in, most_chunks, extent_at, Book, HasLog, HasFreeEntry, Reads, live_at, chunks_of, AreDisjoint, AreLive, live_words, eight, live_extents}
use Rattle.pmem_lines.specs.Steps.{IsQuietStep}
use Rattle.pmem_lines.proofs.Steps.{step_by, step_none}
use Rattle.log_room.specs.declared.room.Rolled.{Rolled}
use Rattle.log_room.specs.declared.room.Rolled.TheVariants as rolled
use Rattle.log_room.specs.Chunks.{has_space, spare_chunks}
use Rattle.log_room.specs.Needless.{is_needless}
use Rattle.log_room.specs.Copies.{fill_count, switch_count}
use Rattle.log_room.specs.Room.{live_log, chunks_for, kept_chunks, chunks_behind, way_of, room_events, most_events, KeepsLog}
use Rattle.log_room.proofs.Choices.{length-spare, length-without_one}
use Rattle.log_room.proofs.Next.{same_words}
use Rattle.log_room.proofs.Flushes.{length-switch}
use Rattle.log_room.proofs.Ways.{IsArenaLog, first_passes, rewrite_most}
use Rattle.log_room.proofs.Making.{IsRoll, roll_is, rewrite_is, rewrite_full, events_of, free_space, way_nothing, same_version, made}

-- what the book says is live is in the heap
pub book_live : (book : Book) (words : List ℕ) → book.granules ≤ (layout_of (version_in words)).most_granules → Reads book words → AreLive 0 book.granules (live_at book)
book_live book words few reads = record {
  each = λ start x is.
      let live = (live_extents book.granules words (chunks_of words) (omega (arith, few, (layout_rules (version_in words)).most)) reads.log).each start x (sym (reads.live start) ∙ is) in
      record { low = omega arith; some = live.some; high = live.high; fits = live.fits };
}

-- and its entries are those of the arena
pub book_words : (book : Book) (words : List ℕ) → Reads book words → live_words (live_at book) 0 book.granules ≡ live_log book.granules words
unfolding live_log
book_words book words reads = same_words (live_at book) (extent_at words) 0 book.granules reads.live

-- how many chunks a rewrite needs
pub book_chunks : (book : Book) (words : List ℕ) (version count n : ℕ) → Reads book words → version ≡ version_in words → count ≡ length (live_words (live_at book) 0 book.granules) → n ≡ (layout_of version).chunk_entries →
    count / n + 1 ≡ chunks_for (version_in words) (length (live_log book.granules words))
book_chunks book words version count n reads is counted row =
    ap (λ k. count / k + 1) row
    ∙ ap (λ v. count / (layout_of v).chunk_entries + 1) is
    ∙ ap (λ k. k / (layout_of (version_in words)).chunk_entries + 1) (counted ∙ ap length (book_words book words reads))

-- a roll leaves room in the directory
pub roll_kept : (granules : ℕ) (words : List ℕ) (dropped : Option ℕ) → HasLog granules words → way_of granules words ≡ rolled.Rolled dropped → length (kept_chunks dropped (chunks_of words)) < 8
roll_kept granules words dropped log is = kept dropped (roll_is granules words dropped is)
  where
    kept : (dropped : Option ℕ) → IsRoll granules words dropped → length (kept_chunks dropped (chunks_of words)) < 8
    kept None roll = roll.few refl
    kept (Some chunk) roll =
        let passes = first_passes (is_needless granules words (chunks_of words)) (chunks_of words) chunk roll.first in
        omega (arith, length-without_one chunk (chunks_of words) passes.1, log.directory.most)

-- how many events a roll has
pub roll_count : (granules : ℕ) (words : List ℕ) (dropped : Option ℕ) → HasLog granules words → way_of granules words ≡ rolled.Rolled dropped → length (room_events granules words) ≡ switch_count (version_in words) 1
roll_count granules words dropped log is =
    let active = chunks_of words in
    let fresh = take 1 (spare_chunks active) in
    let one = length-spare active 1 (omega (arith, log.directory.most)) in
    ap length (events_of granules words (rolled.Rolled dropped) is) ∙ length-switch (version_in words) fresh [] (kept_chunks dropped active ++ fresh) ∙ ap (switch_count (version_in words)) one

-- how many chunks a rewrite writes, and events it has
pub rewrite_few : (granules : ℕ) (words : List ℕ) (chunks : ℕ) → IsArenaLog granules words (chunks_of words) → AreDisjoint (extent_at words) → way_of granules words ≡ rolled.Rewritten chunks → chunks ≤ 5
rewrite_few granules words chunks arena disjoint is = omega (arith, rewrite_is granules words chunks is, rewrite_most granules words (chunks_of words) arena disjoint)

pub rewrite_count : (granules : ℕ) (words : List ℕ) (chunks : ℕ) → IsArenaLog granules words (chunks_of words) → AreDisjoint (extent_at words) → way_of granules words ≡ rolled.Rewritten chunks →
    length (room_events granules words) ≡ switch_count (version_in words) chunks
rewrite_count granules words chunks arena disjoint is =
    let active = chunks_of words in
    let fresh = take chunks (spare_chunks active) in
    let size = length-spare active chunks (omega (arith, arena.log.directory.most, rewrite_few granules words chunks arena disjoint is)) in
    ap length (events_of granules words (rolled.Rewritten chunks) is) ∙ length-switch (version_in words) fresh (live_log granules words) fresh ∙ ap (switch_count (version_in words)) size

-- where there is room, nothing is done
pub none_made : (granules : ℕ) (words : List ℕ) → has_space (version_in words) words (chunks_of words) ≡ true → room_events granules words ≡ []
none_made granules words space = events_of granules words rolled.Nothing (way_nothing granules words space)

pub none_appends : (s : PmemState) (events : List Event) → events ≡ [] → Appends s s events
none_appends s events none = subst (Appends s s) (sym none) (Appends-state s s [] (sym (appended_none s)))

pub none_step : {s : PmemState} (granules : ℕ) → IsQuiet s.events → HasLog granules (words_of s) → has_space (version_in (words_of s)) (words_of s) (chunks_of (words_of s)) ≡ true →
    IsQuietStep s s (room_events granules (words_of s)) (KeepsLog granules (words_of s))
none_step {s} granules quiet log space =
    step_by [] (room_events granules (words_of s)) (sym (none_made granules (words_of s) space))
    (step_none quiet (record { same_length = refl; log = log; extents = λ start. refl; others = λ k other outside. refl }))

-- where no entry is free, there is no space
pub no_space : (granules : ℕ) (words : List ℕ) → HasLog granules words → (HasFreeEntry words → ⊥) → has_space (version_in words) words (chunks_of words) ≡ false
no_space granules words log none = ⊎_elim
    (λ (space : has_space (version_in words) words (chunks_of words) ≡ true). absurd (none (free_space granules words log space)))
    (λ full. full)
    (cases_Bool (has_space (version_in words) words (chunks_of words)))

-- how many events so many chunks take at most
count_most : (version chunks : ℕ) → chunks ≤ 5 → switch_count version chunks + 3 ≤ (layout_of version).entry_events
count_most version chunks few = omega (arith, (layout_rules version).entry, mul-le (fill_count version) chunks (fill_count version) 5 (omega arith) few)

-- how many events make room at most, and add an entry
pub room_most : (granules : ℕ) (words : List ℕ) → HasLog granules words → heap_word (version_in words) ≤ length words → granules ≤ (layout_of (version_in words)).most_granules → AreDisjoint (extent_at words) →
    length (room_events granules words) + 3 ≤ (layout_of (version_in words)).entry_events
room_most granules words log inside few disjoint = by_way (way_of granules words) refl
  where
    arena : IsArenaLog granules words (chunks_of words)
    arena = record { log = log; inside = inside; few = few }

    by_way : (way : Rolled) → way_of granules words ≡ way → length (room_events granules words) + 3 ≤ (layout_of (version_in words)).entry_events
    by_way rolled.Nothing is = omega (arith, ap length (events_of granules words rolled.Nothing is), count_most (version_in words) 0 (omega arith))
    by_way (rolled.Rolled dropped) is = omega (arith, roll_count granules words dropped log is, count_most (version_in words) 1 (omega arith))
    by_way (rolled.Rewritten chunks) is =
        omega (arith, rewrite_count granules words chunks arena disjoint is, count_most (version_in words) chunks (rewrite_few granules words chunks arena disjoint is))

-- how many events an entry has at most, by how many chunks are active

-- a bound of both is one of either
bound_either : (b : Bool) (x y n : ℕ) → n ≤ x → n ≤ y → n ≤ cond b x y
bound_either true x y n low high = low
bound_either false x y n low high = high

either_bound : (b : Bool) (x y n : ℕ) → x ≤ n → y ≤ n → cond b x y ≤ n
either_bound true x y n low high = low
either_bound false x y n low high = high

module _ (granules : ℕ) (words : List ℕ) (log : HasLog granules words) (inside : heap_word (version_in words) ≤ length words) (few : granules ≤ (layout_of (version_in words)).most_granules) (disjoint : AreDisjoint (extent_at words)) where
  arena_log : IsArenaLog granules words (chunks_of words)
  arena_log = record { log = log; inside = inside; few = few }

  abbrev row : Layout
  row = layout_of (version_in words)

  abbrev new : List ℕ
  new = reading words (room_events granules words)

  roll_most : switch_count (version_in words) 1 + 3 ≤ (layout_of (version_in words)).roll_events
  roll_most = omega (arith, (layout_rules (version_in words)).roll)

  pub room_by_chunks : length (room_events granules words) + 3 ≤ most_events words
  room_by_chunks = by_way (way_of granules words) refl
    where
      by_way : (way : Rolled) → way_of granules words ≡ way → length (room_events granules words) + 3 ≤ most_events words
      by_way rolled.Nothing is =
          let none = ap length (events_of granules words rolled.Nothing is) in
          bound_either (ltb (length (chunks_of words)) most_chunks) row.roll_events row.entry_events _ (omega (arith, none, roll_most)) (omega (arith, none, count_most (version_in words) 0 (omega arith)))
      by_way (rolled.Rolled dropped) is =
          let count = roll_count granules words dropped log is in
          bound_either (ltb (length (chunks_of words)) most_chunks) row.roll_events row.entry_events _ (omega (arith, count, roll_most)) (omega (arith, count, count_most (version_in words) 1 (omega arith)))
      by_way (rolled.Rewritten chunks) is =
          let whole = room_most granules words log inside few disjoint in
          subst (λ b. length (room_events granules words) + 3 ≤ cond b row.roll_events row.entry_events) (sym (le-ltb (length (chunks_of words)) most_chunks (rewrite_full granules words chunks is))) whole

  same_row : layout_of (version_in new) ≡ layout_of (version_in words)
  same_row = ap layout_of (same_version granules words new (made arena_log disjoint).keeps)

  -- what the next one has at most is less by as much: the log is not rewritten twice
  pub room_then : length (room_events granules words) + 3 + most_events new ≤ row.entry_events + row.roll_events
  room_then = by_way (way_of granules words) refl
    where
      rises : row.roll_events ≤ row.entry_events
      rises = (layout_rules (version_in words)).rises

      later : most_events new ≤ row.entry_events
      later = either_bound (ltb (length (chunks_of new)) most_chunks) (layout_of (version_in new)).roll_events (layout_of (version_in new)).entry_events row.entry_events
          (omega (arith, rises, ap (λ (r : Layout). r.roll_events) same_row)) (omega (arith, ap (λ (r : Layout). r.entry_events) same_row))

      by_way : (way : Rolled) → way_of granules words ≡ way → length (room_events granules words) + 3 + most_events new ≤ row.entry_events + row.roll_events
      by_way rolled.Nothing is = omega (arith, ap length (events_of granules words rolled.Nothing is), roll_most, later)
      by_way (rolled.Rolled dropped) is = omega (arith, roll_count granules words dropped log is, roll_most, later)
      by_way (rolled.Rewritten chunks) is =
          let whole = room_most granules words log inside few disjoint in
          let active = chunks_of words in
          let below = rewrite_few granules words chunks arena_log disjoint is in
          let size = length-spare active chunks (omega (arith, log.directory.most, below)) in
          let count : length (chunks_of new) ≡ chunks = ap length ((made arena_log disjoint).chunks ∙ ap (chunks_behind active) is) ∙ size in
          let less : most_events new ≡ (layout_of (version_in new)).roll_events =
          ap (λ b. cond b (layout_of (version_in new)).roll_events (layout_of (version_in new)).entry_events) (lt-ltb (length (chunks_of new)) most_chunks (omega (arith, count, below, eight))) in
          omega (arith, whole, less, ap (λ (r : Layout). r.roll_events) same_row)
