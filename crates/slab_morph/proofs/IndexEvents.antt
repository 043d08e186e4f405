-- Old blocks are put into the index table of a slab: what is read then, and what a crash leaves.
use Rattle.std.proofs.Common.{◌≡◌, ◌⊎◌, ◌&&◌, ◌||◌, ◌+◌, ◌*◌, ◌/◌, ◌%◌, ◌^◌, ◌<◌, ◌≤◌, min, ⊎_elim, inl, inr, ℕ, zero, suc, Bool, true, ltb, List, [], ◌∷◌, ◌++◌, length, get_or, refl, sym, ap, ◌∙◌, subst, arith, append_assoc, length-append}
use Rattle.slab_morph.proofs.Common.{cases_lt, lt-ltb, le-ltb, cond-true, cond-false, take_all, word_at, put_word, word_at-put_same, word_at-put_other, length-put_word, Event, Store, Fence, reading, IsQuiet, IsStored, IsImage, CrashOnly, is_flushed, reading-append, by_blend, quiet_image, flushes_of, granule_word, blocks_place, IsIndexWord, bit_of_word, index_word, slab_bit, index_stores, index_events}
use Rattle.durable_steps.proofs.Rows.{IsStored-flushes, reading-flushes, is_flushed-behind, is_flushed-flushes, IsQuiet-flushes}
use Rattle.slab_header.specs.declared.index.IndexEntry.{IndexEntry}
use Rattle.slab_header.specs.Index.{word_of_index, SaysOfIndex}
use Rattle.slab_header.proofs.Entries.{says_of_word}
use Rattle.slab_morph.specs.SlabHeaders.{header_at}
use Rattle.slab_morph.specs.Stages.{with_index, IsSameButIndex, IsOffIndex}
use Rattle.slab_morph.proofs.Reading.{bit_by}
use Rattle.slab_morph.proofs.HeaderWords.{below_and, below_where, header_off_index}

-- the entry of a live old block
abbrev pub entry_of : ℕ → IndexEntry
entry_of number = record { live = true; number = number }

-- one block more
pub index_stores-more : (start place number : ℕ) (numbers : List ℕ) → index_stores start place (numbers ++ number ∷ []) ≡ index_stores start place numbers ++ Store (8 * index_word start (place + length numbers)) (word_of_index (entry_of number)) ∷ []
index_stores-more start place number [] = let here : place ≡ place + 0 = omega arith in ap (λ p. Store (8 * index_word start p) (word_of_index (entry_of number)) ∷ []) here
index_stores-more start place number (n ∷ numbers) =
    let next : place + 1 + length numbers ≡ place + suc (length numbers) = omega arith in
    let rest = index_stores-more start (place + 1) number numbers in
    ap (λ (es : List Event). Store (8 * index_word start place) (word_of_index (entry_of n)) ∷ es)
    (rest ∙ ap (λ p. index_stores start (place + 1) numbers ++ Store (8 * index_word start p) (word_of_index (entry_of number)) ∷ []) next)

-- there is a store for each
pub length-index_stores : (start place : ℕ) (numbers : List ℕ) → length (index_stores start place numbers) ≡ length numbers
length-index_stores start place [] = refl
length-index_stores start place (n ∷ numbers) = omega (arith, length-index_stores start (place + 1) numbers)

-- they store to the index table alone
stored_in_table : (start place : ℕ) (numbers : List ℕ) (rest : List Event) (k value : ℕ) → place + length numbers ≤ 64 → IsStored (index_stores start place numbers ++ rest) k value →
    ((granule_word start + 72 ≤ k) × (k < granule_word start + 136)) ⊎ IsStored rest k value
stored_in_table start place [] rest k value few stored = inr stored
stored_in_table start place (n ∷ numbers) rest k value few stored = ⊎_elim
    (λ here. inl (omega (arith, here.0, few), omega (arith, here.0, few)))
    (λ later. stored_in_table start (place + 1) numbers rest k value (omega (arith, few)) later)
    stored

-- words of other places stay
place_kept : (base : List ℕ) (start place : ℕ) (numbers : List ℕ) (p : ℕ) → place + length numbers ≤ 64 → p < 64 → (p < place) ⊎ (place + length numbers ≤ p) →
    word_at (reading base (index_stores start place numbers)) (index_word start p) ≡ word_at base (index_word start p)
place_kept base start place [] p few below apart = refl
place_kept base start place (n ∷ numbers) p few below apart =
    place_kept (put_word base (8 * index_word start place / 8) (word_of_index (entry_of n))) start (place + 1) numbers p (omega (arith, few)) below
    (⊎_elim (λ (less : p < place). inl (omega (arith, less))) (λ (more : place + suc (length numbers) ≤ p). inr (omega (arith, more))) apart)
    ∙ word_at-put_other base (8 * index_word start place / 8) (index_word start p) (word_of_index (entry_of n)) (λ e. omega (arith, e, few, below, apart))

-- the words of their places are those of the entries
place_put : (base : List ℕ) (start place : ℕ) (numbers : List ℕ) (p i : ℕ) → place + length numbers ≤ 64 → granule_word start + blocks_place ≤ length base → p ≡ place + i → i < length numbers →
    word_at (reading base (index_stores start place numbers)) (index_word start p) ≡ word_of_index (entry_of (get_or numbers i 0))
place_put base start place [] p i few inside is below = absurd (omega (arith, below))
place_put base start place (n ∷ numbers) p zero few inside is below =
    let new = put_word base (8 * index_word start place / 8) (word_of_index (entry_of n)) in
    place_kept new start (place + 1) numbers p (omega (arith, few)) (omega (arith, few, is)) (inl (omega (arith, is)))
    ∙ word_at-put_same base (8 * index_word start place / 8) (index_word start p) (word_of_index (entry_of n)) (let here : p ≡ place = omega (arith, is) in omega (arith, ap (index_word start) here)) (omega (arith, inside, few))
place_put base start place (n ∷ numbers) p (suc i) few inside is below =
    let new = put_word base (8 * index_word start place / 8) (word_of_index (entry_of n)) in
    place_put new start (place + 1) numbers p i (omega (arith, few)) (omega (arith, inside, length-put_word base (8 * index_word start place / 8) (word_of_index (entry_of n)))) (omega (arith, is)) (omega (arith, below))

-- the flushes and the fence behind them
abbrev rest_of : ℕ → List ℕ → List Event
rest_of start numbers = flushes_of (8 * index_word start 0 / 64) (min (length numbers) 8) ++ Fence ∷ []

regrouped : (start : ℕ) (numbers : List ℕ) → index_events start numbers ≡ index_stores start 0 numbers ++ rest_of start numbers
regrouped start numbers = append_assoc (index_stores start 0 numbers) (flushes_of (8 * index_word start 0 / 64) (min (length numbers) 8)) (Fence ∷ [])

-- they end quiet
stores_quiet : (start place n : ℕ) (numbers : List ℕ) (rest : List Event) → place + length numbers ≤ n → n ≤ 64 → ((p : ℕ) → p < n → is_flushed (8 * index_word start p / 64) rest ≡ true) → IsQuiet rest →
    IsQuiet (index_stores start place numbers ++ rest)
stores_quiet start place n [] rest few most flushed quiet = quiet
stores_quiet start place n (number ∷ numbers) rest few most flushed quiet = (
  is_flushed-behind (8 * index_word start place / 64) (index_stores start (place + 1) numbers) rest (flushed place (omega (arith, few))),
  stores_quiet start (place + 1) n numbers rest (omega (arith, few)) most flushed quiet,
)

pub IsQuiet-index : (start : ℕ) (numbers : List ℕ) → length numbers ≤ 64 → IsQuiet (index_events start numbers)
IsQuiet-index start numbers few =
    let first = 8 * index_word start 0 / 64 in
    let lines = min (length numbers) 8 in
    subst IsQuiet (sym (regrouped start numbers))
    (stores_quiet start 0 (length numbers) numbers (rest_of start numbers) (omega arith) few
    (λ p below. is_flushed-flushes (8 * index_word start p / 64) first lines (Fence ∷ []) (omega arith) (omega (arith, below, few)) refl)
    (IsQuiet-flushes first lines (Fence ∷ []) tt))

-- a crash leaves all words before and behind the index table
pub index_crash : (base : List ℕ) (start : ℕ) (numbers : List ℕ) → length numbers ≤ 64 → CrashOnly base (index_events start numbers) (IsOffIndex base start)
index_crash base start numbers few = by_blend base (index_events start numbers) (IsOffIndex base start) (λ image blend.
    let stored : (k value : ℕ) → IsStored (index_events start numbers) k value → (granule_word start + 72 ≤ k) × (k < granule_word start + 136) = λ k value is. ⊎_elim
    (λ here. here)
    (λ later. absurd (IsStored-flushes (8 * index_word start 0 / 64) (min (length numbers) 8) (Fence ∷ []) k value later))
    (stored_in_table start 0 numbers (rest_of start numbers) k value (omega (arith, few)) (subst (λ (es : List Event). IsStored es k value) (regrouped start numbers) is)) in
    record {
      same_length = blend.same_length;
      others = λ k outside. ⊎_elim
          (λ same. same)
          (λ is. absurd (let within = stored k (word_at image k) is in omega (arith, within, outside)))
          (blend.each k);
    })

-- and so do all of them
pub index_left : (base : List ℕ) (start : ℕ) (numbers : List ℕ) → length numbers ≤ 64 → IsOffIndex base start (reading base (index_events start numbers))
index_left base start numbers few =
    let events = index_events start numbers in
    let all : IsImage base events (reading base events) = quiet_image base events (IsQuiet-index start numbers few) in
    (index_crash base start numbers few).each (length events) (reading base events)
    (subst (λ (es : List Event). IsImage base es (reading base events)) (sym (take_all (length events) events (omega arith))) all)

-- what is read behind them
reading-index : (base : List ℕ) (start : ℕ) (numbers : List ℕ) → reading base (index_events start numbers) ≡ reading base (index_stores start 0 numbers)
reading-index base start numbers =
    let stores = reading base (index_stores start 0 numbers) in
    ap (reading base) (regrouped start numbers)
    ∙ reading-append base (index_stores start 0 numbers) (rest_of start numbers)
    ∙ reading-append stores (flushes_of (8 * index_word start 0 / 64) (min (length numbers) 8)) (Fence ∷ [])
    ∙ reading-flushes stores (8 * index_word start 0 / 64) (min (length numbers) 8)

-- the old blocks stand in the index table
module _ (base : List ℕ) (start : ℕ) (numbers : List ℕ) (few : length numbers ≤ 64) (inside : granule_word start + blocks_place ≤ length base) (fits : (i : ℕ) → i < length numbers → get_or numbers i 0 < 2 ^ 16) where
  abbrev new : List ℕ
  new = reading base (index_events start numbers)

  same : IsSameButIndex (header_at base start) (header_at new start)
  same = header_off_index base new start (index_left base start numbers few)

  word_here : (place : ℕ) → place < length numbers → word_at new (index_word start place) ≡ word_of_index (entry_of (get_or numbers place 0))
  word_here place below = ap (λ (ws : List ℕ). word_at ws (index_word start place)) (reading-index base start numbers) ∙ place_put base start 0 numbers place place (omega (arith, few)) inside (omega arith) below

  says : (place : ℕ) → place < length numbers → SaysOfIndex (word_at new (index_word start place)) (entry_of (get_or numbers place 0))
  says place below = says_of_word (word_at new (index_word start place)) (entry_of (get_or numbers place 0)) (word_here place below) (fits place below)

  word_past : (place : ℕ) → length numbers ≤ place → place < 64 → word_at new (index_word start place) ≡ word_at base (index_word start place)
  word_past place past below = ap (λ (ws : List ℕ). word_at ws (index_word start place)) (reading-index base start numbers) ∙ place_kept base start 0 numbers place (omega (arith, few)) below (inr (omega (arith, past)))

  lives : (place : ℕ) → (header_at new start).live place ≡ (with_index (header_at base start) numbers).live place
  unfolding header_at
  lives place = ⊎_elim
      (λ (below : place < length numbers).
      ap (λ b. b && bit_of_word (word_at new (index_word start place)) 0) (lt-ltb place 64 (omega (arith, below, few)))
      ∙ (says place below).live
      ∙ sym (ap (λ b. b || (header_at base start).live place) (lt-ltb place (length numbers) below)))
      (λ (past : length numbers ≤ place).
      below_and place 64 (bit_of_word (word_at new (index_word start place)) 0) (bit_of_word (word_at base (index_word start place)) 0) (λ less. ap (λ w. bit_of_word w 0) (word_past place past less))
      ∙ sym (ap (λ b. b || (header_at base start).live place) (le-ltb place (length numbers) past)))
      (cases_lt place (length numbers))

  numbered : (place : ℕ) → (header_at new start).number place ≡ (with_index (header_at base start) numbers).number place
  unfolding header_at
  numbered place = ⊎_elim
      (λ (below : place < length numbers).
      cond-true (ltb place 64) (word_at new (index_word start place) / 2 ^ 16 % 2 ^ 16) 0 (lt-ltb place 64 (omega (arith, below, few)))
      ∙ (says place below).number
      ∙ sym (cond-true (ltb place (length numbers)) (get_or numbers place 0) ((header_at base start).number place) (lt-ltb place (length numbers) below)))
      (λ (past : length numbers ≤ place).
      below_where place 64 (word_at new (index_word start place) / 2 ^ 16 % 2 ^ 16) (word_at base (index_word start place) / 2 ^ 16 % 2 ^ 16) (λ less. ap (λ w. w / 2 ^ 16 % 2 ^ 16) (word_past place past less))
      ∙ sym (cond-false (ltb place (length numbers)) (get_or numbers place 0) ((header_at base start).number place) (le-ltb place (length numbers) past)))
      (cases_lt place (length numbers))

  -- its words are of the form
  pub entries_formed : (place : ℕ) → place < length numbers → IsIndexWord (word_at new (index_word start place))
  entries_formed place below = (says place below).form

  pub header_index : header_at new start ≡ with_index (header_at base start) numbers
  header_index i = record {
    kind = same.state.kind i;
    class = same.state.class i;
    old = same.state.old i;
    index_count = same.state.index_count i;
    bit = same.bit i;
    live = λ place. lives place i;
    number = λ place. numbered place i;
  }

-- bits that are read between the stores are as before
pub bit_between : (base words : List ℕ) (start : ℕ) (numbers : List ℕ) (i : ℕ) (is : Bool) → words ≡ reading base (index_stores start 0 numbers) → length numbers ≤ 64 → i < 4096 → is ≡ slab_bit words start i →
    (header_at base start).bit i ≡ is
bit_between base words start numbers i is left few below read =
    let whole : words ≡ reading base (index_events start numbers) = left ∙ sym (reading-index base start numbers) in
    sym (ap (λ (f : ℕ → Bool). f i) ((header_off_index base (reading base (index_events start numbers)) start (index_left base start numbers few)).bit))
    ∙ ap (λ (ws : List ℕ). (header_at ws start).bit i) (sym whole)
    ∙ bit_by words start i is below read

-- how many events there are
pub length-index_events : (start : ℕ) (numbers : List ℕ) → length (index_events start numbers) ≡ length numbers + min (length numbers) 8 + 1
length-index_events start numbers =
    ap length (regrouped start numbers)
    ∙ length-append (index_stores start 0 numbers) (rest_of start numbers)
    ∙ omega (arith, length-index_stores start 0 numbers, length-append (flushes_of (8 * index_word start 0 / 64) (min (length numbers) 8)) (Fence ∷ []), length-flushes (8 * index_word start 0 / 64) (min (length numbers) 8))
  where
    length-flushes : (line n : ℕ) → length (flushes_of line n) ≡ n
    length-flushes line zero = refl
    length-flushes line (suc n) = omega (arith, length-flushes (line + 1) n)
