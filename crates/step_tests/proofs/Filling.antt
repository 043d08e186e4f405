-- A log that is filled, of an arena with as many granules as its version has at most, on a memory of the words before its heap.
use Rattle.std.proofs.Common.{◌≡◌, ◌+◌, ◌*◌, ◌≤◌, ℕ, Bool, true, false, cond, eqb, length, refl, sym, ap, subst, arith}
use Rattle.pmem_lines.specs.Events.{IsQuiet}
use Rattle.step_tests.proofs.Common.{PmemState, words_of, began, heap_word, version_in, extent_at}
use Rattle.pool_layout.specs.Layout.{first_layout, second_layout, layout_of}
use Rattle.book_log.specs.Book.{Book, Reads}
use Rattle.log_room.specs.Room.{room_events}
use Rattle.log_room.proofs.Booked.{room_most}
use Rattle.step_tests.proofs.Evens.{AreEven, even_disjoint}

-- the heap of either version begins so low, and the largest arena has so many granules
row_size : (second : Bool) → ((cond second second_layout first_layout).first_granule ≤ 13) × (1024 ≤ (cond second second_layout first_layout).most_granules)
row_size true = (omega arith, omega arith)
row_size false = (omega arith, omega arith)

pub log_size : (version : ℕ) → ((layout_of version).first_granule ≤ 13) × (1024 ≤ (layout_of version).most_granules)
unfolding layout_of
log_size version = row_size (eqb version 2)

-- what stays so while entries are put into it
pub record IsFilling (version : ℕ) (book : Book) (s : PmemState) : Type 0 where
  pub reads : Reads book (words_of s)
  pub even : AreEven (extent_at (words_of s))
  pub quiet : IsQuiet s.events
  pub version_is : version_in (words_of s) ≡ version
  pub size : length (words_of s) ≡ 2048 * (layout_of version).first_granule
  pub room : s.room ≡ (layout_of version).entry_events
  pub granules : book.granules ≡ (layout_of version).most_granules

module _ {version : ℕ} {book : Book} {s : PmemState} (filling : IsFilling version book s) where
  -- its chunks lie inside
  pub filled_inside : heap_word (version_in (words_of s)) ≤ length (words_of s)
  filled_inside = omega (arith, filling.size, ap (λ v. (layout_of v).first_granule) filling.version_is)

  pub filled_few : book.granules ≤ (layout_of (version_in (words_of s))).most_granules
  filled_few = omega (arith, filling.granules, ap (λ v. (layout_of v).most_granules) filling.version_is)

  -- there is room for an entry, and for what makes room for it
  pub filled_most : length (room_events book.granules (words_of s)) + 3 ≤ s.room
  filled_most =
      omega (arith, filling.room, ap (λ v. (layout_of v).entry_events) filling.version_is, room_most book.granules (words_of s) filling.reads.log filled_inside filled_few (even_disjoint (extent_at (words_of s)) filling.even))

  -- also once a call has begun
  pub begun_most : {begun : PmemState} → begun ≡ began s → (length (room_events book.granules (words_of begun)) + 3 ≤ begun.room) × (length begun.events ≡ 0)
  begun_most is = subst (λ (b : PmemState). (length (room_events book.granules (words_of b)) + 3 ≤ b.room) × (length b.events ≡ 0)) (sym is) (filled_most, refl)
