-- The making of a slab: what its events are, leave and keep.
use Rattle.std.proofs.Common.{◌≡◌, ◌+◌, ◌-◌, ◌*◌, ◌/◌, ◌%◌, ◌<◌, ◌≤◌, ⊎_elim, ℕ, List, [], ◌∷◌, ◌++◌, length, refl, sym, ap, ◌∙◌, subst, arith, append_assoc}
use Rattle.std.proofs.lemmas.List.{take_all}
use Rattle.pmem_lines.specs.Words.{word_at, put_word, zeros}
use Rattle.pmem_lines.proofs.Words.{word_at-put_same, word_at-put_other, length-zeros, AreZeros-zeros}
use Rattle.pmem_lines.specs.declared.event.Event.{Event}
use Rattle.pmem_lines.specs.declared.event.Event.TheVariants.{Store, Fence}
use Rattle.pmem_lines.specs.Events.{reading, IsQuiet, IsStored, IsImage, CrashOnly}
use Rattle.pmem_lines.proofs.Images.{reading-append, length-reading, by_blend, quiet_image}
use Rattle.durable_steps.specs.Rows.{stores_at, flushes_of}
use Rattle.durable_steps.proofs.Rows.{IsStored-flushes, IsStored-stores, reading-flushes, row_word, is_flushed-flushes, IsQuiet-flushes, IsQuiet-stores}
use Rattle.image_tables.specs.Tables.{state_word, bitmap_word, bit_of_word}
use Rattle.slab_header.specs.declared.state.SlabState.TheVariants.{Normal}
use Rattle.slab_header.specs.State.{word_of_state, SaysOfState}
use Rattle.slab_header.specs.Steps.{made_lines, bitmap_words, make_events, IsOutside, IsMade, KeepsOutside}
use Rattle.slab_header.proofs.Tables.{bit_of_word-zero, KeepsOutside-others}

-- the numbers
pub made_lines-is : 9 ≡ made_lines
unfolding made_lines
made_lines-is = refl

pub bitmap_words-is : bitmap_words ≡ 64
unfolding bitmap_words
bitmap_words-is = refl

-- the events by their parts
pub make_events-parts : {from place word lines : ℕ} {words : List ℕ} (at class : ℕ) → from ≡ at + 64 → words ≡ zeros bitmap_words → place ≡ at → word ≡ word_of_state (Normal class) → lines ≡ made_lines →
    stores_at from words ++ Store place word ∷ [] ++ flushes_of (at / 64) lines ++ Fence ∷ [] ≡ make_events at class
make_events-parts at class behind clear first state header =
    λ i. stores_at (behind i) (clear i) ++ Store (first i) (state i) ∷ [] ++ flushes_of (at / 64) (header i) ++ Fence ∷ []

-- what follows the stores to the bitmap
abbrev rest_of : ℕ → ℕ → List Event
rest_of at class = Store at (word_of_state (Normal class)) ∷ (flushes_of (at / 64) made_lines ++ Fence ∷ [])

regrouped : (at class : ℕ) → make_events at class ≡ stores_at (at + 64) (zeros bitmap_words) ++ rest_of at class
regrouped at class =
    let stores = stores_at (at + 64) (zeros bitmap_words) in
    let store : List Event = Store at (word_of_state (Normal class)) ∷ [] in
    let flushes = flushes_of (at / 64) made_lines in
    append_assoc (stores ++ store) flushes (Fence ∷ []) ∙ append_assoc stores store (flushes ++ Fence ∷ [])

-- they end quiet
pub IsQuiet-make : (at class : ℕ) → at % 64 ≡ 0 → IsQuiet (make_events at class)
IsQuiet-make at class aligned =
    let flushes = flushes_of (at / 64) made_lines ++ Fence ∷ [] in
    let flushed : (line : ℕ) → at / 64 ≤ line → line < at / 64 + 9 → _ = λ line low high. is_flushed-flushes line (at / 64) made_lines (Fence ∷ []) low (omega (arith, made_lines-is)) refl in
    subst IsQuiet (sym (regrouped at class))
    (IsQuiet-stores (at + 64) (zeros bitmap_words) (rest_of at class) (λ line low high. flushed line (omega arith) (omega (arith, length-zeros bitmap_words, bitmap_words-is)))
    (flushed (at / 64) (omega arith) (omega arith), IsQuiet-flushes (at / 64) made_lines (Fence ∷ []) tt))

-- they store nothing outside
stored_inside : (at class k value : ℕ) → at % 16384 ≡ 0 → IsStored (make_events at class) k value → IsOutside (at / 16384) k → ⊥
stored_inside at class k value aligned stored outside =
    ⊎_elim
    (λ row. absurd (omega (arith, row.0, row.1, length-zeros bitmap_words, bitmap_words-is, outside)))
    (λ rest. ⊎_elim
    (λ here. omega (arith, here.0, outside))
    (λ later. IsStored-flushes (at / 64) made_lines (Fence ∷ []) k value later)
    rest)
    (IsStored-stores (at + 64) (zeros bitmap_words) (rest_of at class) k value (subst (λ es. IsStored es k value) (regrouped at class) stored))

-- so a crash within them leaves all outside as it was
pub make_crash : (base : List ℕ) (at class : ℕ) → at % 16384 ≡ 0 → CrashOnly base (make_events at class) (KeepsOutside base (at / 16384))
make_crash base at class aligned = by_blend base (make_events at class) (KeepsOutside base (at / 16384)) (λ image blend.
    KeepsOutside-others base image (at / 16384) blend.same_length
    (λ k outside. ⊎_elim (λ same. same) (λ stored. absurd (stored_inside at class k (word_at image k) aligned stored outside)) (blend.each k)))

-- and so do all of them
kept_by_all : (base : List ℕ) (at class : ℕ) → at % 16384 ≡ 0 → KeepsOutside base (at / 16384) (reading base (make_events at class))
kept_by_all base at class aligned =
    let events = make_events at class in
    let all : IsImage base events (reading base events) = quiet_image base events (IsQuiet-make at class (omega arith)) in
    (make_crash base at class aligned).each (length events) (reading base events)
    (subst (λ (es : List Event). IsImage base es (reading base events)) (sym (take_all (length events) events (omega arith))) all)

-- what is read behind them
reading-make : (base : List ℕ) (at class : ℕ) → reading base (make_events at class) ≡ put_word (reading base (stores_at (at + 64) (zeros bitmap_words))) (at / 8) (word_of_state (Normal class))
reading-make base at class =
    let stores = stores_at (at + 64) (zeros bitmap_words) in
    let state = put_word (reading base stores) (at / 8) (word_of_state (Normal class)) in
    ap (reading base) (regrouped at class)
    ∙ reading-append base stores (rest_of at class)
    ∙ reading-append state (flushes_of (at / 64) made_lines) (Fence ∷ [])
    ∙ reading-flushes state (at / 64) made_lines

-- a word of the bitmap
read_clear : (base : List ℕ) (at class k : ℕ) → at % 16384 ≡ 0 → at + 2048 ≤ 8 * length base → at / 8 + 8 ≤ k → k < at / 8 + 72 → word_at (reading base (make_events at class)) k ≡ 0
unfolding word_at
read_clear base at class k aligned inside low high =
    let row = reading base (stores_at (at + 64) (zeros bitmap_words)) in
    ap (λ (ws : List ℕ). word_at ws k) (reading-make base at class)
    ∙ word_at-put_other row (at / 8) k (word_of_state (Normal class)) (λ e. omega (arith, e))
    ∙ row_word base (at + 64) (zeros bitmap_words) k (omega arith) (omega (arith, length-zeros bitmap_words, bitmap_words-is)) (omega arith)
    ∙ (AreZeros-zeros bitmap_words).each (k - (at + 64) / 8)

-- a slab is made
pub made : (base : List ℕ) (at class : ℕ) → at % 16384 ≡ 0 → at + 2048 ≤ 8 * length base → SaysOfState (word_of_state (Normal class)) (Normal class) →
    IsMade base (reading base (make_events at class)) (at / 16384) class
made base at class aligned inside says =
    let start = at / 16384 in
    let new = reading base (make_events at class) in
    let stores = stores_at (at + 64) (zeros bitmap_words) in
    let state : word_at new (state_word start) ≡ word_of_state (Normal class) =
    ap (λ (ws : List ℕ). word_at ws (state_word start)) (reading-make base at class)
    ∙ word_at-put_same (reading base stores) (at / 8) (state_word start) (word_of_state (Normal class)) (omega arith) (omega (arith, length-reading base stores)) in
    let clear : (i : ℕ) → i < 4096 → word_at new (bitmap_word start i) ≡ 0 = λ i below. read_clear base at class (bitmap_word start i) aligned inside (omega arith) (omega arith) in
    record {
      kept = kept_by_all base at class aligned;
      state = state;
      says = subst (λ w. SaysOfState w (Normal class)) (sym state) says;
      clear = clear;
      bits = λ i below. ap (λ w. bit_of_word w (i / 8 % 64)) (clear i below) ∙ bit_of_word-zero (i / 8 % 64);
    }
