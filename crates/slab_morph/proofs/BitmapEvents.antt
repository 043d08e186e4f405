-- The bitmap of a slab is cleared: what is read then, and what a crash leaves.
use Rattle.std.proofs.Common.{◌≡◌, ◌&&◌, ◌+◌, ◌-◌, ◌*◌, ◌/◌, ◌%◌, ◌<◌, ◌≤◌, ⊎_elim, ℕ, false, List, [], ◌∷◌, ◌++◌, length, refl, sym, ap, ◌∙◌, subst, arith, append_assoc}
use Rattle.slab_morph.proofs.Common.{cases_lt, lt-ltb, le-ltb, take_all, length-zeros, AreZeros-zeros, Event, Fence, reading, IsQuiet, IsStored, IsImage, CrashOnly, reading-append, by_blend, quiet_image, stores_at, flushes_of, granule_word, blocks_place, bitmap_word, bit_of_word, slab_bit, bitmap_words, clear_events}
use Rattle.pmem_lines.specs.Words.{word_at, zeros}
use Rattle.durable_steps.proofs.Rows.{IsStored-flushes, IsStored-stores, reading-flushes, row_word, is_flushed-flushes, IsQuiet-flushes, IsQuiet-stores}
use Rattle.slab_header.proofs.Making.{bitmap_words-is}
use Rattle.slab_header.proofs.Tables.{bit_of_word-zero}
use Rattle.slab_morph.specs.SlabHeaders.{header_at}
use Rattle.slab_morph.specs.Stages.{with_no_bit, IsOffBitmap}
use Rattle.slab_morph.proofs.HeaderWords.{header_off_bitmap, header_by_bits}

-- where the bitmap begins, in bytes
abbrev at_bitmap : ℕ → ℕ
at_bitmap start = 16384 * start + 64

abbrev rest_of : ℕ → List Event
rest_of start = flushes_of (at_bitmap start / 64) 8 ++ Fence ∷ []

regrouped : (start : ℕ) → clear_events start ≡ stores_at (at_bitmap start) (zeros bitmap_words) ++ rest_of start
regrouped start = append_assoc (stores_at (at_bitmap start) (zeros bitmap_words)) (flushes_of (at_bitmap start / 64) 8) (Fence ∷ [])

long : length (zeros bitmap_words) ≡ 64
long = length-zeros bitmap_words ∙ bitmap_words-is

-- they end quiet
pub IsQuiet-clear : (start : ℕ) → IsQuiet (clear_events start)
IsQuiet-clear start =
    subst IsQuiet (sym (regrouped start))
    (IsQuiet-stores (at_bitmap start) (zeros bitmap_words) (rest_of start)
    (λ line low high. is_flushed-flushes line (at_bitmap start / 64) 8 (Fence ∷ []) low (omega (arith, high, long)) refl)
    (IsQuiet-flushes (at_bitmap start / 64) 8 (Fence ∷ []) tt))

-- they store to the bitmap alone
stored_in_bitmap : (start k value : ℕ) → IsStored (clear_events start) k value → (granule_word start + 8 ≤ k) × (k < granule_word start + 72)
stored_in_bitmap start k value stored = ⊎_elim
    (λ row. (omega (arith, row.0), omega (arith, row.1, long)))
    (λ later. absurd (IsStored-flushes (at_bitmap start / 64) 8 (Fence ∷ []) k value later))
    (IsStored-stores (at_bitmap start) (zeros bitmap_words) (rest_of start) k value (subst (λ (es : List Event). IsStored es k value) (regrouped start) stored))

-- a crash leaves all words before and behind the bitmap
pub clear_crash : (base : List ℕ) (start : ℕ) → CrashOnly base (clear_events start) (IsOffBitmap base start)
clear_crash base start = by_blend base (clear_events start) (IsOffBitmap base start) (λ image blend. record {
  same_length = blend.same_length;
  others = λ k outside. ⊎_elim
      (λ same. same)
      (λ is. absurd (let within = stored_in_bitmap start k (word_at image k) is in omega (arith, within, outside)))
      (blend.each k);
})

-- and so do all of them
pub clear_left : (base : List ℕ) (start : ℕ) → IsOffBitmap base start (reading base (clear_events start))
clear_left base start =
    let events = clear_events start in
    let all : IsImage base events (reading base events) = quiet_image base events (IsQuiet-clear start) in
    (clear_crash base start).each (length events) (reading base events)
    (subst (λ (es : List Event). IsImage base es (reading base events)) (sym (take_all (length events) events (omega arith))) all)

-- what is read behind them
reading-clear : (base : List ℕ) (start : ℕ) → reading base (clear_events start) ≡ reading base (stores_at (at_bitmap start) (zeros bitmap_words))
reading-clear base start =
    let stores = reading base (stores_at (at_bitmap start) (zeros bitmap_words)) in
    ap (reading base) (regrouped start)
    ∙ reading-append base (stores_at (at_bitmap start) (zeros bitmap_words)) (rest_of start)
    ∙ reading-append stores (flushes_of (at_bitmap start / 64) 8) (Fence ∷ [])
    ∙ reading-flushes stores (at_bitmap start / 64) 8

-- no bit is set
module _ (base : List ℕ) (start : ℕ) (inside : granule_word start + blocks_place ≤ length base) where
  abbrev new : List ℕ
  new = reading base (clear_events start)

  clear_word : (k : ℕ) → granule_word start + 8 ≤ k → k < granule_word start + 72 → word_at new k ≡ 0
  unfolding word_at
  clear_word k low high =
      ap (λ (ws : List ℕ). word_at ws k) (reading-clear base start)
      ∙ row_word base (at_bitmap start) (zeros bitmap_words) k (omega (arith, low)) (omega (arith, high, long)) (omega (arith, high, inside))
      ∙ (AreZeros-zeros bitmap_words).each (k - at_bitmap start / 8)

  no_bit : (i : ℕ) → (header_at new start).bit i ≡ false
  unfolding header_at
  no_bit i = ⊎_elim
      (λ (below : i < 4096).
      ap (λ b. b && slab_bit new start i) (lt-ltb i 4096 below)
      ∙ ap (λ w. bit_of_word w (i / 8 % 64)) (clear_word (bitmap_word start i) (omega arith) (omega (arith, below)))
      ∙ bit_of_word-zero (i / 8 % 64))
      (λ (past : 4096 ≤ i). ap (λ b. b && slab_bit new start i) (le-ltb i 4096 past))
      (cases_lt i 4096)

  pub header_clear : header_at new start ≡ with_no_bit (header_at base start)
  header_clear = header_by_bits (header_at base start) (header_at new start) (with_no_bit (header_at base start)) (header_off_bitmap base new start (clear_left base start)) refl refl refl refl refl refl (λ i n. no_bit n i)
