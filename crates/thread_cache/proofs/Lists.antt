-- Addresses in lists: which a list has, what is left of one, and lists turned round.
use Rattle.std.proofs.Common.{◌≡◌, ℕ, ◌<◌, ◌⊎◌, ⊎_elim, inl, inr, Bool, true, false, cond, eqb, List, [], ◌∷◌, ◌++◌, reverse, refl, sym, ap, ◌∙◌, subst, arith}
use Rattle.std.proofs.lemmas.Bool.{eqb-true, eq-eqb, or_cases, or_left, or_right, false≢true}
use Rattle.std.proofs.lemmas.List.{append-nil, reverse-reverse}
use Rattle.std.proofs.lemmas.List.Elements.{filter-append}
use mathlib.Core.List.{reverse-cons}
use Rattle.std.specs.List.{filter, list_any}
use Rattle.heap_model.specs.Placement.{Has, AreRising}

-- turned round

Has-left : (xs ys : List ℕ) (at : ℕ) → Has xs at → Has (xs ++ ys) at
Has-left [] ys at has = absurd has
Has-left (x ∷ xs) ys at has = ⊎_elim (λ is. inl is) (λ behind. inr (Has-left xs ys at behind)) has

Has-right : (xs ys : List ℕ) (at : ℕ) → Has ys at → Has (xs ++ ys) at
Has-right [] ys at has = has
Has-right (x ∷ xs) ys at has = inr (Has-right xs ys at has)

-- a list that is turned round has the same addresses
pub Has-reverse : (xs : List ℕ) (at : ℕ) → Has xs at → Has (reverse xs) at
Has-reverse [] at has = absurd has
Has-reverse (x ∷ xs) at has =
    subst (λ (ys : List ℕ). Has ys at) (sym (reverse-cons x xs))
    (⊎_elim (λ is. Has-right (reverse xs) (x ∷ []) at (inl is)) (λ behind. Has-left (reverse xs) (x ∷ []) at (Has-reverse xs at behind)) has)

pub Has-reversed : (xs : List ℕ) (at : ℕ) → Has (reverse xs) at → Has xs at
Has-reversed xs at has = subst (λ (ys : List ℕ). Has ys at) (reverse-reverse xs) (Has-reverse (reverse xs) at has)

last_filtered : (passes : Bool) (x : ℕ) (xs : List ℕ) → reverse xs ++ cond passes (x ∷ []) [] ≡ reverse (cond passes (x ∷ xs) xs)
last_filtered true x xs = sym (reverse-cons x xs)
last_filtered false x xs = append-nil (reverse xs)

-- what passes of a list that is turned round is what passes, turned round
pub filter-reverse : (p : ℕ → Bool) (xs : List ℕ) → filter p (reverse xs) ≡ reverse (filter p xs)
filter-reverse p [] = refl
filter-reverse p (x ∷ xs) =
    ap (filter p) (reverse-cons x xs) ∙ filter-append p (reverse xs) (x ∷ []) ∙ ap (λ (ys : List ℕ). ys ++ filter p (x ∷ [])) (filter-reverse p xs) ∙ last_filtered (p x) x (filter p xs)

-- tests

-- an address that is found in a list is in it, and one that is in it is found
pub Has-by_test : (xs : List ℕ) (at : ℕ) → list_any (λ x. eqb x at) xs ≡ true → Has xs at
Has-by_test [] at found = absurd (false≢true found)
Has-by_test (x ∷ xs) at found =
    ⊎_elim (λ (here : eqb x at ≡ true). inl (sym (eqb-true x at here))) (λ (behind : list_any (λ x. eqb x at) xs ≡ true). inr (Has-by_test xs at behind)) (or_cases (eqb x at) (list_any (λ x. eqb x at) xs) found)

pub test_by_Has : (xs : List ℕ) (at : ℕ) → Has xs at → list_any (λ x. eqb x at) xs ≡ true
test_by_Has [] at has = absurd has
test_by_Has (x ∷ xs) at has =
    ⊎_elim
    (λ (is : at ≡ x). or_left (eqb x at) (list_any (λ x. eqb x at) xs) (eq-eqb x at (sym is)))
    (λ (behind : Has xs at). or_right (eqb x at) (list_any (λ x. eqb x at) xs) (test_by_Has xs at behind))
    has

-- one more at the end

pub Has_joined : (xs : List ℕ) (last at : ℕ) → Has (xs ++ last ∷ []) at → Has xs at ⊎ (at ≡ last)
Has_joined [] last at has = ⊎_elim (λ is. inr is) (λ behind. absurd behind) has
Has_joined (x ∷ xs) last at has =
    ⊎_elim (λ is. inl (inl is)) (λ behind. ⊎_elim (λ (one : Has xs at). inl (inr one)) (λ (is : at ≡ last). inr is) (Has_joined xs last at behind)) has

-- addresses that rise, and one above them
pub AreRising-last : (xs : List ℕ) (last : ℕ) → AreRising xs → ((at : ℕ) → Has xs at → at < last) → AreRising (xs ++ last ∷ [])
AreRising-last [] last rising above = ((λ other has. absurd has), tt)
AreRising-last (x ∷ xs) last rising above = (
  (λ other has. ⊎_elim (λ (one : Has xs other). rising.0 other one) (λ (is : other ≡ last). omega (arith, is, above x (inl refl))) (Has_joined xs last other has)),
  AreRising-last xs last rising.1 (λ at has. above at (inr has)),
)
