-- An entry is put into the log behind the events that make room for it.
use Rattle.std.proofs.Common.{◌≡◌, ◌≢◌, ◌<◌, ◌≤◌, ◌+◌, ⊎_elim, inl, inr, ℕ, zero, suc, Bool, true, false, true≢false, cond, nat_lt, if◌then◌else◌, List, ◌++◌, length, refl, sym, ap, ◌∙◌, arith, Option, Some, None, IsSome}
use Rattle.std.proofs.lemmas.Bool.{cases_eq}
use Rattle.pmem_lines.specs.Words.{word_at, put_word}
use Rattle.pmem_lines.specs.Events.{reading}
use Rattle.pmem_lines.proofs.Words.{word_at-put_other, length-put_word}
use Rattle.pool_layout.specs.Layout.{layout_of}
use Rattle.pool_layout.proofs.Layouts.{layout_rules}
use Rattle.pool_layout.specs.Header.{version_in, granules_in}
use Rattle.image_tables.specs.Log.{most_chunks}
use Rattle.image_tables.specs.Extents.{extent_at}
use Rattle.image_tables.proofs.Stores.{IsSameOffLog, version_in-off_log}
use Rattle.book_log.specs.declared.entry.LogEntry.{LogEntry}
use Rattle.book_log.specs.declared.place.EntryPlace.{EntryPlace}
use Rattle.book_log.specs.Entry.{log_word as word_of_entry}
use Rattle.book_log.specs.Log.{logged, with_entry}
use Rattle.book_log.specs.Book.{Book, HasLog, Reads, IsNextOf, IsInLog, IsEntryOrNot, chunks_of, place_word, append_events}
use Rattle.book_log.specs.Live.{AreDisjoint}
use Rattle.log_room.specs.Room.{room_events, most_events, KeepsLog}
use Rattle.log_room.proofs.Booked.{room_by_chunks, room_then}
use Rattle.heap_check.specs.Image.{IsFormed}
use Rattle.log_steps.specs.Events.{first_zero, next_entry_word, log_events}
use Rattle.log_steps.specs.Log.{KeepsRest, IsLogged, IsLoggedOrNot, IsBookOf}
use Rattle.heap_check.proofs.Sizes.{heap_inside}

-- where the next entry goes

-- a row without a 0
first_zero-none : (row : ℕ → ℕ) (n : ℕ) → ((i : ℕ) → i < n → row i ≢ 0) → first_zero row n ≡ n
first_zero-none row zero none = refl
first_zero-none row (suc n) none =
    let before : first_zero row n ≡ n = first_zero-none row n (λ i below. none i (omega arith)) in
    grind arith

-- the first 0 of a row
pub first_zero-is : (row : ℕ → ℕ) (n i : ℕ) → i < n → row i ≡ 0 → ((earlier : ℕ) → earlier < i → row earlier ≢ 0) → first_zero row n ≡ i
first_zero-is row zero i below here first = absurd (omega arith)
first_zero-is row (suc n) i below here first = ⊎_elim
    (λ (last : i ≡ n). let before : first_zero row n ≡ n = first_zero-none row n (λ k less. first k (omega (arith, last))) in grind arith)
    (λ (other : i ≢ n). let before : first_zero row n ≡ i = first_zero-is row n i (omega (arith, other)) here first in grind arith)
    (cases_eq i n)

next_of : (words : List ℕ) (next : Option EntryPlace) → IsSome next → IsNextOf words next → place_word (version_in words) next ≡ next_entry_word words
unfolding next_entry_word
next_of words None some is = absurd (true≢false (sym some))
next_of words (Some place) some is =
    let first = first_zero-is (logged (version_in words) words place.chunk) (layout_of (version_in words)).chunk_entries place.entry is.1.below is.1.free is.1.first in
    grind arith

-- the events

-- those of a log that reads the words, behind the events that made room
pub events_of_entry : (book made_book : Book) (words made : List ℕ) (entry : LogEntry) → book.granules ≡ granules_in words → made ≡ reading words (room_events book.granules words) →
    Reads made_book made → IsSome made_book.next → room_events book.granules words ++ append_events made_book made entry ≡ log_events words entry
unfolding log_events
events_of_entry book made_book words made entry granules is reads some = grind (arith, next_of)

-- what stays

pub off_log : (words image : List ℕ) → KeepsRest words image → IsSameOffLog words image
off_log words image rest = record { same_length = rest.same_length; others = rest.others }

pub rest_made : (granules : ℕ) (words image : List ℕ) → granules ≡ granules_in words → KeepsLog granules words image → KeepsRest words image
rest_made granules words image same keeps = grind arith

-- one more word of the log is changed
rest_then : (words made image : List ℕ) (k : ℕ) → KeepsRest words made → IsInLog (version_in made) k → length image ≡ length made →
    ((other : ℕ) → other ≢ k → word_at image other ≡ word_at made other) → HasLog (granules_in words) image → KeepsRest words image
rest_then words made image k rest place size others log = grind (arith, version_in-off_log, off_log)

-- with the entry the extents are those that they were without the room
with_same : (granules : ℕ) (words made : List ℕ) (entry : LogEntry) → KeepsLog granules words made → (start : ℕ) → with_entry (extent_at made) entry start ≡ with_entry (extent_at words) entry start
with_same granules words made entry keeps start = ap (λ f. with_entry f entry start) (λ i s. keeps.extents s i)

-- room was made, and then the entry was put
module _ {granules : ℕ} {words made : List ℕ} {k : ℕ} {entry : LogEntry} (same : granules ≡ granules_in words) (keeps : KeepsLog granules words made) (place : IsInLog (version_in made) k) where
  pub logged_then : (new : List ℕ) → new ≡ put_word made k (word_of_entry entry) → HasLog granules new → ((start : ℕ) → extent_at new start ≡ with_entry (extent_at made) entry start) → IsLogged words entry new
  logged_then new is log extents = record {
    rest = rest_then words made new k (rest_made granules words made same keeps) place (grind (arith, length-put_word)) (λ other apart. grind (arith, word_at-put_other)) (rw (← same) log);
    extents = λ start. extents start ∙ with_same granules words made entry keeps start;
  }

  pub logged_or_not : (image : List ℕ) → IsEntryOrNot granules made k entry image → IsLoggedOrNot words entry image
  logged_or_not image either = record {
    rest = rest_then words made image k (rest_made granules words made same keeps) place (grind (arith, length-put_word)) either.others (rw (← same) either.log);
    extents = ⊎_elim (λ old. inl (λ start. old start ∙ keeps.extents start)) (λ new. inr (λ start. new start ∙ with_same granules words made entry keeps start)) either.extents;
  }

pub made_or_not : (granules : ℕ) (words : List ℕ) (entry : LogEntry) → granules ≡ granules_in words → (image : List ℕ) → KeepsLog granules words image → IsLoggedOrNot words entry image
made_or_not granules words entry same image keeps = record { rest = rest_made granules words image same keeps; extents = inl keeps.extents }

-- the arena has no more granules than its version allows
pub most_granules : (book : Book) (words : List ℕ) → IsFormed words → IsBookOf book words → book.granules ≤ (layout_of (version_in words)).most_granules
most_granules book words formed log = omega (arith, log.granules, formed.header.valid.greatest)

-- how many events make room at most, and add the entry
pub room_few : (book : Book) (words : List ℕ) → IsFormed words → IsBookOf book words → AreDisjoint (extent_at words) → length (room_events book.granules words) + 3 ≤ most_events words
room_few book words formed log disjoint =
    room_by_chunks book.granules words log.reads.log (heap_inside words formed) (most_granules book words formed log) disjoint

-- and with those of the next one, whatever the entry is
pub room_once : (book : Book) (words made new : List ℕ) → IsFormed words → IsBookOf book words → AreDisjoint (extent_at words) → made ≡ reading words (room_events book.granules words) → version_in new ≡ version_in made → chunks_of new ≡ chunks_of made →
    length (room_events book.granules words) + 3 + most_events new ≤ (layout_of (version_in words)).entry_events + (layout_of (version_in words)).roll_events
room_once book words made new formed log disjoint is version chunks =
    let most = room_then book.granules words log.reads.log (heap_inside words formed) (most_granules book words formed log) disjoint in
    let same : most_events new ≡ most_events made =
    ap (λ (cs : List ℕ). if nat_lt (length cs) most_chunks then (layout_of (version_in new)).roll_events else (layout_of (version_in new)).entry_events) chunks
    ∙ ap (λ v. if nat_lt (length (chunks_of made)) most_chunks then (layout_of v).roll_events else (layout_of v).entry_events) version in
    omega (arith, most, same, ap most_events is)

-- an entry has no more events than the version says
pub most_few : (words : List ℕ) → most_events words ≤ (layout_of (version_in words)).entry_events
most_few words = by (nat_lt (length (chunks_of words)) most_chunks)
  where
    by : (b : Bool) → cond b (layout_of (version_in words)).roll_events (layout_of (version_in words)).entry_events ≤ (layout_of (version_in words)).entry_events
    by true = (layout_rules (version_in words)).rises
    by false = omega arith
