-- The greatest of a list of numbers, and of a part of it: where one number changes, and by the greatest of groups.
use Rattle.std.proofs.Common.{◌≡◌, ◌≢◌, ◌⊎◌, ⊎_elim, inl, inr, ℕ, ◌+◌, ◌*◌, ◌/◌, ◌<◌, ◌≤◌, List, length, get_or, set, sym, ap, ◌∙◌, subst, arith}
use Rattle.std.proofs.lemmas.Bool.{cases_lt, cases_eq}
use Rattle.std.proofs.lemmas.List.{set-set, set-get_or, length-set, get_or-set_same, get_or-set_other, get_or_past}
use Rattle.dict_index.specs.Numbers.{IsGreatestIn, IsGreatest}
use Rattle.dict_index.specs.Kept.{AreNumbersKept}

-- a number that is set and then put back
pub put_back : (numbers : List ℕ) (at number was : ℕ) → was ≡ get_or numbers at 0 → set (set numbers at number) at was ≡ numbers
put_back numbers at number was is = set-set numbers at number was ∙ (ap (λ n. set numbers at n) is ∙ set-get_or numbers at 0)

-- a part in which no number changed
pub same_part : (old new : List ℕ) (from to most : ℕ) → ((i : ℕ) → from ≤ i → i < to → get_or new i 0 ≡ get_or old i 0) → IsGreatestIn old from to most → IsGreatestIn new from to most
same_part old new from to most same was = record {
  most = λ i low high. omega (arith, same i low high, was.most i low high);
  is = ⊎_elim
      (λ (none : most ≡ 0). inl none)
      (λ (some : (k : ℕ) × (from ≤ k) × (k < to) × (get_or old k 0 ≡ most)). inr (some.0, some.1, some.2, same some.0 some.1 some.2 ∙ some.3))
      was.is;
}

-- a root's number changed, and so the greatest of its group, and that of all
pub kept_anew : (numbers groups : List ℕ) (greatest root number anew top : ℕ) → AreNumbersKept numbers groups greatest → root / 64 < length groups →
    IsGreatestIn (set numbers root number) (64 * (root / 64)) (64 * (root / 64) + 64) anew → IsGreatestIn (set groups (root / 64) anew) 0 (length groups) top → AreNumbersKept (set numbers root number) (set groups (root / 64) anew) top
kept_anew numbers groups greatest root number anew top kept inside here all = record {
  few = omega (arith, kept.few, length-set numbers root number);
  size = length-set groups (root / 64) anew ∙ (kept.size ∙ ap (λ (n : ℕ). n / 64 + 1) (sym (length-set numbers root number)));
  each = λ g within. ⊎_elim
      (λ (same : g ≡ root / 64).
      let set_here : get_or (set groups (root / 64) anew) g 0 ≡ anew = ap (λ k. get_or (set groups (root / 64) anew) k 0) same ∙ get_or-set_same groups (root / 64) anew 0 inside in
      subst (λ (n : ℕ). IsGreatestIn (set numbers root number) (64 * g) (64 * g + 64) n) (sym set_here) (subst (λ (k : ℕ). IsGreatestIn (set numbers root number) (64 * k) (64 * k + 64) anew) (sym same) here))
      (λ (apart : g ≢ root / 64).
      subst (λ (n : ℕ). IsGreatestIn (set numbers root number) (64 * g) (64 * g + 64) n) (sym (get_or-set_other groups (root / 64) g anew 0 apart))
      (same_part numbers (set numbers root number) (64 * g) (64 * g + 64) (get_or groups g 0) (λ i low high. get_or-set_other numbers root i number 0 (λ is. apart (omega arith))) (kept.each g (omega (arith, length-set groups (root / 64) anew)))))
      (cases_eq g (root / 64));
  all = subst (λ (n : ℕ). IsGreatestIn (set groups (root / 64) anew) 0 n top) (sym (length-set groups (root / 64) anew)) all;
}

-- by the greatest of each group that of all
module _ (numbers groups : List ℕ) (greatest : ℕ) (kept : AreNumbersKept numbers groups greatest) where
  at_most : (root : ℕ) → get_or numbers root 0 ≤ greatest
  at_most root = ⊎_elim
      (λ (inside : root < length numbers).
      let group : root / 64 < length groups = omega (arith, kept.size) in
      let in_group = (kept.each (root / 64) group).most root (omega arith) (omega arith) in
      omega (arith, in_group, kept.all.most (root / 64) (omega arith) group))
      (λ (past : length numbers ≤ root). let zero : get_or numbers root 0 ≡ 0 = get_or_past numbers root 0 past in omega arith)
      (cases_lt root (length numbers))

  abbrev Found : Type 0
  Found = (greatest ≡ 0) ⊎ ((root : ℕ) × (root < length numbers) × (get_or numbers root 0 ≡ greatest))

  found : Found
  found = ⊎_elim
      (λ (none : greatest ≡ 0). inl none)
      (λ (some : (g : ℕ) × (0 ≤ g) × (g < length groups) × (get_or groups g 0 ≡ greatest)). ⊎_elim
      (λ (none : get_or groups some.0 0 ≡ 0). inl (sym some.3 ∙ none))
      (λ (root : (i : ℕ) × (64 * some.0 ≤ i) × (i < 64 * some.0 + 64) × (get_or numbers i 0 ≡ get_or groups some.0 0)). here root.0 (root.3 ∙ some.3))
      (kept.each some.0 some.2).is)
      kept.all.is
    where
      here : (i : ℕ) → get_or numbers i 0 ≡ greatest → Found
      here i is = ⊎_elim
          (λ (inside : i < length numbers). inr (i, inside, is))
          (λ (past : length numbers ≤ i). inl (sym is ∙ get_or_past numbers i 0 past))
          (cases_lt i (length numbers))

  pub greatest_of : IsGreatest numbers greatest
  greatest_of = record { most = at_most; is = found }
