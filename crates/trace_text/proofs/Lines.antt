-- The lines of a text, one by one.
use Rattle.std.proofs.Common.{◌≡◌, ◌≢◌, ◌==◌, ℕ, ◌+◌, ◌-◌, ◌<◌, ◌≤◌, true, false, List, [], ◌∷◌, ◌++◌, length, take, drop, get_or, refl, sym, ◌∙◌, ap, subst, arith}
use Rattle.std.specs.List.{slice_split, All}
use Rattle.std.proofs.Math.Dec.{eqb-suc-zero}
use Rattle.std.proofs.lemmas.Bool.{ne_eqb, eqb-true}
use Rattle.std.proofs.lemmas.List.{take-append-drop, take_all, take_rest, drop_more, drop_all, length-take-le, get_or-take, nil_from_length}
use Rattle.std.proofs.lemmas.List.Elements.{All-from_get_or}
use Rattle.std.proofs.lemmas.List.Splits.{slice_split_at, slice_split_none, length-slice_split}
use Rattle.trace_text.specs.Texts.{without_empty_end, lines_of}

-- no line feed among the first i bytes
abbrev pub HasNoFeedBefore : List ℕ → ℕ → Type 0
HasNoFeedBefore text i = (k : ℕ) → k < i → get_or text k 0 ≢ 10

-- a piece before others is none that is left out
without_empty_end_more : (piece : List ℕ) (pieces : List (List ℕ)) → 0 < length pieces → without_empty_end (piece ∷ pieces) ≡ piece ∷ without_empty_end pieces
without_empty_end_more piece [] some = absurd (omega arith)
without_empty_end_more piece (next ∷ pieces) some = refl

-- the only piece, if it is not empty
without_empty_end_one : (piece : List ℕ) → 0 < length piece → without_empty_end (piece ∷ []) ≡ piece ∷ []
without_empty_end_one [] some = absurd (omega arith)
without_empty_end_one (byte ∷ piece) some = rw (eqb-suc-zero (length piece)) refl

-- what the test of a line feed says of the bytes before it
no_feed : (text : List ℕ) (i : ℕ) → i ≤ length text → HasNoFeedBefore text i → All (λ (x : ℕ). (x == 10) ≡ false) (take i text)
no_feed text i le none =
    let Is : ℕ → Type 0 = λ x. (x == 10) ≡ false in
    let long = length-take-le i text le in
    All-from_get_or Is (take i text) 0 (λ k l. let lt : k < i = omega (arith, long, l) in subst Is (sym (get_or-take i text k 0 lt)) (ne_eqb (get_or text k 0) 10 (none k lt)))

-- the first line ends at the first line feed
pub lines_at_feed : (text : List ℕ) (i : ℕ) → i < length text → get_or text i 0 ≡ 10 → HasNoFeedBefore text i → lines_of text ≡ take i text ∷ lines_of (take (length text - (i + 1)) (drop (i + 1) text))
lines_at_feed text i lt feed none =
    let rest = drop (i + 1) text in
    let is : text ≡ take i text ++ 10 ∷ rest = sym (take-append-drop i text) ∙ ap (λ (xs : List ℕ). take i text ++ xs) (drop_more text i 0 lt ∙ ap (λ (b : ℕ). b ∷ rest) feed) in
    let split = ap (slice_split (λ (x : ℕ). x == 10)) is ∙ slice_split_at (λ (x : ℕ). x == 10) (take i text) 10 rest (no_feed text i (omega arith) none) refl in
    let many = length-slice_split (λ (x : ℕ). x == 10) rest in
    ap without_empty_end split ∙ without_empty_end_more (take i text) (slice_split (λ (x : ℕ). x == 10) rest) (omega (arith, many))
    ∙ ap (λ (xs : List ℕ). take i text ∷ lines_of xs) (sym (take_rest text (i + 1)))

-- without one the text is its only line
pub lines_without_feed : (text : List ℕ) → 0 < length text → HasNoFeedBefore text (length text) → lines_of text ≡ text ∷ lines_of (take (length text - length text) (drop (length text) text))
lines_without_feed text some none =
    let Is : ℕ → Type 0 = λ x. (x == 10) ≡ false in
    let all : All Is text = subst (All Is) (take_all (length text) text (omega arith)) (no_feed text (length text) (omega arith) none) in
    ap without_empty_end (slice_split_none (λ (x : ℕ). x == 10) text all) ∙ without_empty_end_one text some
    ∙ ap (λ (xs : List ℕ). text ∷ lines_of xs) (sym (take_rest text (length text) ∙ drop_all (length text) text (omega arith)))

-- no bytes, no lines
pub no_lines : (text : List ℕ) → (length text == 0) ≡ true → lines_of text ≡ []
no_lines text none = ap lines_of (nil_from_length text (eqb-true (length text) 0 none))
