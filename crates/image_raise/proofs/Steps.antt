-- The words before the heap, one step further.
use Rattle.std.proofs.Common.{◌≡◌, ◌≢◌, ◌⊎◌, inl, inr, ⊎_elim, ℕ, ◌+◌, ◌<◌, ◌≤◌, List, length, refl, sym, ap, subst, ◌∙◌, arith}
use Rattle.image_raise.proofs.Common.{cases_lt, word_at, put_word, length-put_word, word_at-put_same, word_at-put_other, layout_of, PoolHeader, text_word, fields_word, directory_word, root_word, entry_slot, header_text, header_word, entry_slot-same}
use Rattle.image_raise.specs.Rise.{rise, raised_at, raised_header}
use Rattle.image_raise.specs.Front.{IsRaisedWord, HasRaisedHeader, HasRaisedRoots, HasRaisedEntries, HasRaisedChunks}
use Rattle.image_raise.proofs.Rows.{fits_now}

-- a number below the next one is below, or is this one
below_next : (i n : ℕ) → i < n + 1 → (i < n) ⊎ (i ≡ n)
below_next i n below = ⊎_elim (λ (low : i < n). inl low) (λ (high : n ≤ i). inr (omega (arith, high, below))) (cases_lt i n)

-- the header line

pub header_put : (words front : List ℕ) (header : PoolHeader) (i j k directory : ℕ) → 2 < length front → i ≡ text_word → j ≡ fields_word → k ≡ directory_word → directory ≡ word_at words directory_word →
    HasRaisedHeader words header front (put_word (put_word (put_word front i header_text) j (header_word (raised_header header))) k directory)
header_put words front header i j k directory long first second third same =
    let one = put_word front i header_text in
    let two = put_word one j (header_word (raised_header header)) in
    let size_one : length one ≡ length front = length-put_word front i header_text in
    let size_two : length two ≡ length one = length-put_word one j (header_word (raised_header header)) in
    record {
      size = length-put_word two k directory ∙ size_two ∙ size_one;
      text = word_at-put_other two k text_word directory (λ e. omega (arith, e, third)) ∙ word_at-put_other one j text_word (header_word (raised_header header)) (λ e. omega (arith, e, second)) ∙ word_at-put_same front i text_word header_text first (omega (arith, long, first));
      fields = word_at-put_other two k fields_word directory (λ e. omega (arith, e, third)) ∙ word_at-put_same one j fields_word (header_word (raised_header header)) second (omega (arith, long, second, size_one));
      directory = word_at-put_same two k directory_word directory third (omega (arith, long, third, size_one, size_two)) ∙ same;
      rest = λ m past. word_at-put_other two k m directory (λ e. omega (arith, e, third, past)) ∙ word_at-put_other one j m (header_word (raised_header header)) (λ e. omega (arith, e, second, past)) ∙ word_at-put_other front i m header_text (λ e. omega (arith, e, first, past));
    }

-- roots

pub no_roots : (words old : List ℕ) → HasRaisedRoots words 0 old old
no_roots words old = record { size = refl; each = λ root below. absurd (omega (arith, below)); rest = λ k apart. refl }

pub roots_more : (words old front : List ℕ) (root word : ℕ) → HasRaisedRoots words root old front → root_word root < length front → word ≡ raised_at rise (word_at words (root_word root)) →
    HasRaisedRoots words (root + 1) old (put_word front (root_word root) word)
roots_more words old front root word has inside is = record {
  size = length-put_word front (root_word root) word ∙ has.size;
  each = λ other below. ⊎_elim
      (λ (low : other < root). word_at-put_other front (root_word root) (root_word other) word (λ same. omega (arith, same, low)) ∙ has.each other low)
      (λ (last : other ≡ root).
      let here : root_word root ≡ root_word other = omega (arith, last) in
      word_at-put_same front (root_word root) (root_word other) word here inside ∙ is ∙ ap (λ k. raised_at rise (word_at words k)) here)
      (below_next other root below);
  rest = λ k apart. word_at-put_other front (root_word root) k word (λ same. ⊎_elim (λ low. omega (arith, low, same)) (λ high. omega (arith, high, same)) apart)
      ∙ has.rest k (⊎_elim (λ low. inl low) (λ high. inr (omega (arith, high))) apart);
}

-- entries of a chunk

pub no_entries : (words old : List ℕ) (granules chunk : ℕ) → HasRaisedEntries words granules chunk 0 old old
no_entries words old granules chunk = record { size = refl; each = λ entry below. absurd (omega (arith, below)); rest = λ k apart. refl }

pub entries_more : (words old front : List ℕ) (granules chunk entry word : ℕ) → HasRaisedEntries words granules chunk entry old front → entry < (layout_of 1).chunk_entries → entry_slot 2 chunk entry < length front →
    IsRaisedWord granules (word_at words (entry_slot 1 chunk entry)) word → HasRaisedEntries words granules chunk (entry + 1) old (put_word front (entry_slot 2 chunk entry) word)
entries_more words old front granules chunk entry word has less inside is = record {
  size = length-put_word front (entry_slot 2 chunk entry) word ∙ has.size;
  each = λ other below. ⊎_elim
      (λ (low : other < entry).
      let apart : entry_slot 2 chunk other ≢ entry_slot 2 chunk entry = λ same. omega (arith, low, (entry_slot-same 2 chunk chunk other entry (fits_now other (omega (arith, low, less))) (fits_now entry less) same).1) in
      subst (IsRaisedWord granules (word_at words (entry_slot 1 chunk other))) (sym (word_at-put_other front (entry_slot 2 chunk entry) (entry_slot 2 chunk other) word apart)) (has.each other low))
      (λ (last : other ≡ entry). subst (λ e. IsRaisedWord granules (word_at words (entry_slot 1 chunk e)) (word_at (put_word front (entry_slot 2 chunk entry) word) (entry_slot 2 chunk e))) (sym last)
      (subst (IsRaisedWord granules (word_at words (entry_slot 1 chunk entry))) (sym (word_at-put_same front (entry_slot 2 chunk entry) (entry_slot 2 chunk entry) word refl inside)) is))
      (below_next other entry below);
  rest = λ k apart. word_at-put_other front (entry_slot 2 chunk entry) k word (apart entry (omega arith)) ∙ has.rest k (λ other below. apart other (omega (arith, below)));
}

-- entries of the chunks

pub no_chunks : (words old : List ℕ) (granules : ℕ) → HasRaisedChunks words granules 0 old old
no_chunks words old granules = record { size = refl; each = λ chunk entry below less. absurd (omega (arith, below)); rest = λ k apart. refl }

pub chunks_more : (words old front new : List ℕ) (granules chunk : ℕ) → HasRaisedChunks words granules chunk old front → HasRaisedEntries words granules chunk (layout_of 1).chunk_entries front new → HasRaisedChunks words granules (chunk + 1) old new
chunks_more words old front new granules chunk has step = record {
  size = step.size ∙ has.size;
  each = λ other entry below less. ⊎_elim
      (λ (low : other < chunk).
      let apart : (e : ℕ) → e < (layout_of 1).chunk_entries → entry_slot 2 other entry ≢ entry_slot 2 chunk e = λ e small same. omega (arith, low, (entry_slot-same 2 other chunk entry e (fits_now entry less) (fits_now e small) same).0) in
      subst (IsRaisedWord granules (word_at words (entry_slot 1 other entry))) (sym (step.rest (entry_slot 2 other entry) apart)) (has.each other entry low less))
      (λ (last : other ≡ chunk). subst (λ c. IsRaisedWord granules (word_at words (entry_slot 1 c entry)) (word_at new (entry_slot 2 c entry))) (sym last) (step.each entry less))
      (below_next other chunk below);
  rest = λ k apart. step.rest k (λ entry less. apart chunk entry (omega arith) less) ∙ has.rest k (λ other entry below less. apart other entry (omega (arith, below)) less);
}
