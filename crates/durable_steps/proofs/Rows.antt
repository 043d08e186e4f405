-- What holds of rows of stores and flushes: what they store, what is read behind them, and when they are quiet.
use Rattle.std.proofs.Common.{◌≡◌, ◌≢◌, ◌⊎◌, ℕ, zero, suc, ◌+◌, ◌-◌, ◌*◌, ◌/◌, ◌%◌, ◌<◌, ◌≤◌, List, [], ◌∷◌, ◌++◌, length, get_or, sym, refl, ap, ◌∙◌, arith, inl, inr, ⊎_elim, subst, append_assoc, true, ◌==◌, ◌&&◌}
use Rattle.std.proofs.lemmas.Bool.{eq-eqb, cases_eq, or_left, or_right, and_from}
use Rattle.pmem_lines.specs.Words.{word_at, put_word}
use Rattle.pmem_lines.proofs.Words.{word_at-put_same, word_at-put_other, length-put_word}
use Rattle.pmem_lines.specs.declared.event.Event.{Event}
use Rattle.pmem_lines.specs.declared.event.Event.TheVariants.{Store, Flush, Fence}
use Rattle.pmem_lines.specs.Events.{reading, IsStored, IsQuiet, is_flushed, is_fenced, CrashOnly}
use Rattle.pmem_lines.proofs.Images.{by_blend, is_fenced-append, reading-append}
use Rattle.durable_steps.specs.Rows.{stores_at, flushes_of, lines_of, row_events, IsOldOrNewRow}

-- one flush more
pub flushes_more : (line n i : ℕ) → i < n → flushes_of (line + i) (n - i) ≡ Flush (line + i) ∷ flushes_of (line + (i + 1)) (n - (i + 1))
flushes_more line n i h =
    let one : n - i ≡ suc (n - (i + 1)) = omega arith in
    let next : (line + i) + 1 ≡ line + (i + 1) = omega arith in
    rw (one, next) refl

-- flushes store nothing
pub IsStored-flushes : (line n : ℕ) (events : List Event) (word value : ℕ) → IsStored (flushes_of line n ++ events) word value → IsStored events word value
IsStored-flushes line zero events word value s = s
IsStored-flushes line (suc n) events word value s = IsStored-flushes (line + 1) n events word value s

-- what the stores of words store
pub IsStored-stores : (at : ℕ) (words : List ℕ) (events : List Event) (word value : ℕ) → IsStored (stores_at at words ++ events) word value →
    ((at / 8 ≤ word) × (word < at / 8 + length words) × (value ≡ get_or words (word - at / 8) 0)) ⊎ IsStored events word value
IsStored-stores at [] events word value s = inr s
IsStored-stores at (w ∷ words) events word value s =
    ⊎_elim
    (λ here. inl (omega (arith, here.0), omega (arith, here.0), sym here.1 ∙ at_first w words (word - at / 8) (omega (arith, here.0))))
    (λ later. ⊎_elim
    (λ row. inl (omega (arith, row.0), omega (arith, row.1), row.2 ∙ at_later w words (word - at / 8) (word - (at + 8) / 8) (omega (arith, row.0))))
    (λ rest. inr rest)
    (IsStored-stores (at + 8) words events word value later))
    s
  where
    at_first : (w : ℕ) (words : List ℕ) (i : ℕ) → i ≡ 0 → w ≡ get_or (w ∷ words) i 0
    at_first w words i h = rw h refl

    at_later : (w : ℕ) (words : List ℕ) (i j : ℕ) → i ≡ suc j → get_or words j 0 ≡ get_or (w ∷ words) i 0
    at_later w words i j h = rw h refl

-- what a row stores
pub IsStored-row : (at : ℕ) (words : List ℕ) (word value : ℕ) → IsStored (row_events at words) word value →
    (at / 8 ≤ word) × (word < at / 8 + length words) × (value ≡ get_or words (word - at / 8) 0)
IsStored-row at words word value s =
    ⊎_elim
    (λ row. row)
    (λ rest. absurd (IsStored-flushes (at / 64) (lines_of at (length words)) (Fence ∷ []) word value rest))
    (IsStored-stores at words (flushes_of (at / 64) (lines_of at (length words)) ++ Fence ∷ []) word value (subst (λ es. IsStored es word value) (append_assoc (stores_at at words) (flushes_of (at / 64) (lines_of at (length words))) (Fence ∷ [])) s))

-- flushes change no word
pub reading-flushes : (base : List ℕ) (line n : ℕ) → reading base (flushes_of line n) ≡ base
reading-flushes base line zero = refl
reading-flushes base line (suc n) = reading-flushes base (line + 1) n

-- a word that is none of those that are stored
pub off_stores : (base : List ℕ) (at : ℕ) (words : List ℕ) (k : ℕ) → (k < at / 8) ⊎ (at / 8 + length words ≤ k) → word_at (reading base (stores_at at words)) k ≡ word_at base k
off_stores base at [] k off = refl
off_stores base at (word ∷ words) k off =
    off_stores (put_word base (at / 8) word) (at + 8) words k (grind arith) ∙ word_at-put_other base (at / 8) k word (λ e. omega (arith, e, off))

-- one of the words that are stored
pub row_word : (base : List ℕ) (at : ℕ) (words : List ℕ) (k : ℕ) → at / 8 ≤ k → k < at / 8 + length words → k < length base →
    word_at (reading base (stores_at at words)) k ≡ get_or words (k - at / 8) 0
row_word base at [] k low high inside = absurd (omega arith)
row_word base at (w ∷ words) k low high inside =
    let next = put_word base (at / 8) w in
    ⊎_elim
    (λ (here : k ≡ at / 8).
    let first : k - at / 8 ≡ 0 = omega (arith, here) in
    off_stores next (at + 8) words k (inl (omega (arith, here)))
    ∙ word_at-put_same base (at / 8) k w (sym here) (omega (arith, here))
    ∙ ap (λ j. get_or (w ∷ words) j 0) (sym first))
    (λ (later : k ≢ at / 8).
    let one : k - at / 8 ≡ suc (k - (at + 8) / 8) = omega (arith, later) in
    row_word next (at + 8) words k (omega (arith, later)) (omega arith) (omega (arith, length-put_word base (at / 8) w))
    ∙ ap (λ j. get_or (w ∷ words) j 0) (sym one))
    (cases_eq k (at / 8))

-- a fence stays one behind other events
pub is_fenced-behind : (e f : List Event) → is_fenced f ≡ true → is_fenced (e ++ f) ≡ true
is_fenced-behind e f fenced = is_fenced-append e f ∙ or_right (is_fenced e) (is_fenced f) fenced

-- a line that is flushed is so behind other events
pub is_flushed-behind : (line : ℕ) (e f : List Event) → is_flushed line f ≡ true → is_flushed line (e ++ f) ≡ true
is_flushed-behind line [] f flushed = flushed
is_flushed-behind line (Store at value ∷ e) f flushed = is_flushed-behind line e f flushed
is_flushed-behind line (Flush other ∷ e) f flushed = or_right ((other == line) && is_fenced (e ++ f)) (is_flushed line (e ++ f)) (is_flushed-behind line e f flushed)
is_flushed-behind line (Fence ∷ e) f flushed = is_flushed-behind line e f flushed

-- each of the lines is flushed, where a fence follows
pub is_flushed-flushes : (line first n : ℕ) (events : List Event) → first ≤ line → line < first + n → is_fenced events ≡ true → is_flushed line (flushes_of first n ++ events) ≡ true
is_flushed-flushes line first zero events low high fenced = absurd (omega arith)
is_flushed-flushes line first (suc n) events low high fenced =
    let rest = flushes_of (first + 1) n ++ events in
    ⊎_elim
    (λ (here : line ≡ first). or_left (first == line && is_fenced rest) (is_flushed line rest)
    (and_from (first == line) (is_fenced rest) (eq-eqb first line (sym here)) (is_fenced-behind (flushes_of (first + 1) n) events fenced)))
    (λ (other : line ≢ first). or_right (first == line && is_fenced rest) (is_flushed line rest)
    (is_flushed-flushes line (first + 1) n events (omega (arith, other)) (omega arith) fenced))
    (cases_eq line first)

-- flushes are quiet before quiet events
pub IsQuiet-flushes : (first n : ℕ) (events : List Event) → IsQuiet events → IsQuiet (flushes_of first n ++ events)
IsQuiet-flushes first zero events quiet = quiet
IsQuiet-flushes first (suc n) events quiet = IsQuiet-flushes (first + 1) n events quiet

-- stores to lines that quiet events flush are quiet
pub IsQuiet-stores : (at : ℕ) (words : List ℕ) (events : List Event) → ((line : ℕ) → at / 64 ≤ line → 64 * line < at + 8 * length words → is_flushed line events ≡ true) → IsQuiet events →
    IsQuiet (stores_at at words ++ events)
IsQuiet-stores at [] events flushed quiet = quiet
IsQuiet-stores at (w ∷ words) events flushed quiet = (
  is_flushed-behind (at / 64) (stores_at (at + 8) words) events (flushed (at / 64) (omega arith) (omega arith)),
  IsQuiet-stores (at + 8) words events (λ line low high. flushed line (omega arith) (omega arith)) quiet,
)

-- a row ends quiet
pub IsQuiet-row : (at : ℕ) (words : List ℕ) → at % 8 ≡ 0 → 0 < length words → IsQuiet (row_events at words)
IsQuiet-row at words aligned some =
    let lines = lines_of at (length words) in
    subst IsQuiet (sym (append_assoc (stores_at at words) (flushes_of (at / 64) lines) (Fence ∷ [])))
    (IsQuiet-stores at words (flushes_of (at / 64) lines ++ Fence ∷ [])
    (λ line low high. is_flushed-flushes line (at / 64) lines (Fence ∷ []) low (omega arith) refl)
    (IsQuiet-flushes (at / 64) lines (Fence ∷ []) tt))

-- each word of the row is old or new, and each other one is old
pub row_crash : (base : List ℕ) (at : ℕ) (words : List ℕ) → CrashOnly base (row_events at words) (IsOldOrNewRow base at words)
row_crash base at words = by_blend base (row_events at words) (IsOldOrNewRow base at words) (λ image blend. record {
  same_length = blend.same_length;
  each = λ word. ⊎_elim (λ same. inl same) (λ s. inr (IsStored-row at words word (word_at image word) s)) (blend.each word);
})

-- the flushes and the fence of a row change no word
pub reading-row : (base : List ℕ) (at : ℕ) (words : List ℕ) → reading base (row_events at words) ≡ reading base (stores_at at words)
reading-row base at words = grind (arith, reading-append, reading-flushes)

-- a word off the row is read behind it as before
pub off_row : (base : List ℕ) (at : ℕ) (words : List ℕ) (k : ℕ) → (k < at / 8) ⊎ (at / 8 + length words ≤ k) → word_at (reading base (row_events at words)) k ≡ word_at base k
off_row base at words k off = ap (λ ws. word_at ws k) (reading-row base at words) ∙ off_stores base at words k off

-- and one of the row as it was stored
pub in_row : (base : List ℕ) (at : ℕ) (words : List ℕ) (k : ℕ) → at / 8 ≤ k → k < at / 8 + length words → k < length base → word_at (reading base (row_events at words)) k ≡ get_or words (k - at / 8) 0
in_row base at words k low high inside = ap (λ ws. word_at ws k) (reading-row base at words) ∙ row_word base at words k low high inside
