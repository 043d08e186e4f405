-- An entry is put into the log of an arena of this variant: how many events it has.
use Rattle.std.proofs.Common.{◌≡◌, ◌+◌, ◌≤◌, ℕ, nat_lt, if◌then◌else◌, List, length, ap, ◌∙◌, arith}
use Rattle.pmem_lines.specs.Events.{reading}
use Rattle.pool_layout.specs.Layout.{layout_of}
use Rattle.pool_layout.specs.Header.{version_in}
use Rattle.image_tables.specs.Log.{most_chunks}
use Rattle.image_tables.specs.Extents.{extent_at}
use Rattle.book_log.specs.Book.{Book, chunks_of}
use Rattle.book_log.specs.Live.{AreDisjoint}
use Rattle.log_room.specs.Room.{room_events, most_events}
use Rattle.log_room.proofs.Booked.{room_by_chunks, room_then}
use Rattle.log_steps.specs.Log.{IsBookOf}
use Rattle.gc_check.specs.Image.{IsGcFormed}
use Rattle.gc_check.proofs.Logged.{gc_log}

-- the arena has no more granules than its version allows
pub most_granules : (book : Book) (words : List ℕ) → IsGcFormed words → IsBookOf book words → book.granules ≤ (layout_of (version_in words)).most_granules
most_granules book words formed log = omega (arith, log.granules, (gc_log words formed).most)

-- how many events make room at most, and add the entry
pub room_few : (book : Book) (words : List ℕ) → IsGcFormed words → IsBookOf book words → AreDisjoint (extent_at words) → length (room_events book.granules words) + 3 ≤ most_events words
room_few book words formed log disjoint =
    room_by_chunks book.granules words log.reads.log (gc_log words formed).inside (most_granules book words formed log) disjoint

-- words with the same version and as many active chunks have as many events at most
pub most_same : (words new : List ℕ) → version_in new ≡ version_in words → chunks_of new ≡ chunks_of words → most_events new ≡ most_events words
most_same words new version chunks =
    ap (λ (cs : List ℕ). if nat_lt (length cs) most_chunks then (layout_of (version_in new)).roll_events else (layout_of (version_in new)).entry_events) chunks
    ∙ ap (λ v. if nat_lt (length (chunks_of words)) most_chunks then (layout_of v).roll_events else (layout_of v).entry_events) version

-- and with those of the next one, whatever the entry is
pub room_once : (book : Book) (words made new : List ℕ) → IsGcFormed words → IsBookOf book words → AreDisjoint (extent_at words) → made ≡ reading words (room_events book.granules words) → version_in new ≡ version_in made → chunks_of new ≡ chunks_of made →
    length (room_events book.granules words) + 3 + most_events new ≤ (layout_of (version_in words)).entry_events + (layout_of (version_in words)).roll_events
room_once book words made new formed log disjoint is version chunks =
    let most = room_then book.granules words log.reads.log (gc_log words formed).inside (most_granules book words formed log) disjoint in
    omega (arith, most, most_same made new version chunks, ap most_events is)
