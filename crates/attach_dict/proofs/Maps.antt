-- Maps as lists of pairs by rising key: what is not in one, and that a list is what it has of each key.
use Rattle.std.proofs.Common.{◌≡◌, ◌≢◌, ℕ, ◌<◌, ◌≤◌, eqb, List, [], ◌∷◌, Some, None, refl, sym, ◌∙◌, arith, ⊎_elim}
use Rattle.std.proofs.lemmas.Bool.{cases_eq, cases_lt, cond-true, cond-false, eq-eqb, ne_eqb}
use Rattle.attach_dict.specs.Dict.{Pair, value_of, AreAbove, AreRising}

-- the value of the first key, and of another
pub value_here : (pair : Pair) (pairs : List Pair) (key : ℕ) → pair.key ≡ key → value_of (pair ∷ pairs) key ≡ Some pair.value
unfolding value_of
value_here pair pairs key is = cond-true (eqb pair.key key) (Some pair.value) (value_of pairs key) (eq-eqb pair.key key is)

pub value_else : (pair : Pair) (pairs : List Pair) (key : ℕ) → pair.key ≢ key → value_of (pair ∷ pairs) key ≡ value_of pairs key
unfolding value_of
value_else pair pairs key differs = cond-false (eqb pair.key key) (Some pair.value) (value_of pairs key) (ne_eqb pair.key key differs)

pub value_none : (key : ℕ) → value_of [] key ≡ None
unfolding value_of
value_none key = refl

-- keys above a number are above a lower one
pub above_more : (low high : ℕ) (pairs : List Pair) → low ≤ high → AreAbove high pairs → AreAbove low pairs
above_more low high [] less above = tt
above_more low high (pair ∷ pairs) less above = (omega (arith, less, above.0), above_more low high pairs less above.1)

-- what is not above it is not there
pub absent : (low : ℕ) (pairs : List Pair) (key : ℕ) → AreAbove low pairs → key ≤ low → value_of pairs key ≡ None
absent low [] key above small = value_none key
absent low (pair ∷ pairs) key above small = value_else pair pairs key (λ is. omega (arith, is, above.0, small)) ∙ absent low pairs key above.1 small

-- the first key of a list is no key of one that begins above it
first_absent : (p q : Pair) (a b : List Pair) → AreRising (q ∷ b) → p.key < q.key → value_of (p ∷ a) p.key ≡ value_of (q ∷ b) p.key → ⊥
first_absent p q a b rising less same =
    let none : value_of (q ∷ b) p.key ≡ None = value_else q b p.key (λ is. omega (arith, is, less)) ∙ absent q.key b p.key rising.0 (omega (arith, less)) in
    let some : value_of (p ∷ a) p.key ≡ Some p.value = value_here p a p.key refl in
    let both : Some p.value ≡ None = sym some ∙ (same ∙ none) in cc both

-- lists by rising key that have the same of each are one
pub same_map : (a b : List Pair) → AreRising a → AreRising b → ((key : ℕ) → value_of a key ≡ value_of b key) → a ≡ b
same_map [] [] up also same = refl
same_map [] (q ∷ b) up also same =
    let both : Some q.value ≡ None = sym (value_here q b q.key refl) ∙ (sym (same q.key) ∙ value_none q.key) in cc both
same_map (p ∷ a) [] up also same =
    let both : Some p.value ≡ None = sym (value_here p a p.key refl) ∙ (same p.key ∙ value_none p.key) in cc both
same_map (p ∷ a) (q ∷ b) up also same =
    let key : p.key ≡ q.key = ⊎_elim
    (λ (less : p.key < q.key). absurd (first_absent p q a b also less (same p.key)))
    (λ (from : q.key ≤ p.key). ⊎_elim (λ (more : q.key < p.key). absurd (first_absent q p b a up more (sym (same q.key)))) (λ (to : p.key ≤ q.key). omega arith) (cases_lt q.key p.key))
    (cases_lt p.key q.key) in
    let values : Some p.value ≡ Some q.value = sym (value_here p a p.key refl) ∙ (same p.key ∙ value_here q b p.key (sym key)) in
    let value : p.value ≡ q.value = cc values in
    let first : p ≡ q = λ i. record { key = key i; value = value i } in
    let rest : a ≡ b = same_map a b up.1 also.1 (λ k. ⊎_elim
    (λ (here : p.key ≡ k). absent p.key a k up.0 (omega (arith, here)) ∙ sym (absent q.key b k also.0 (omega (arith, here, key))))
    (λ (apart : p.key ≢ k). sym (value_else p a k apart) ∙ (same k ∙ value_else q b k (λ is. apart (key ∙ is))))
    (cases_eq p.key k)) in
    λ i. first i ∷ rest i
