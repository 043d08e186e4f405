-- Where a root has no key, a slot has none.
use Rattle.std.proofs.Common.{◌≡◌, ◌≢◌, ℕ, zero, suc, ◌<◌, ◌≤◌, eqb, true, List, ◌∷◌, map, take, length, get_or, sym, ap, ◌∙◌, subst, arith}
use Rattle.std.proofs.lemmas.Bool.{eqb-true, ne_eqb}
use Rattle.std.proofs.lemmas.List.{length-map, length-take-le, get_or-map, get_or-take}
use Rattle.std.proofs.lemmas.List.Folds.{Any-from_list_any}
use Rattle.std.proofs.lemmas.Map.Keys.{IsDistinct-from_apart}
use Rattle.std.proofs.lemmas.Map.Steps.{length-le_from_distinct_below}
use Rattle.std.specs.List.{Any}
use Rattle.dict_index.specs.KeyRoots.{LacksRoot}
use Rattle.dict_index.specs.Kept.{map_of, IsKept}
use Rattle.dict_index.proofs.Places.{within, one_of_root, one_of_slot}
use Rattle.dict_index.proofs.SlotRoots.{stands_nowhere}

module _ (count : ℕ) (row keys roots : List ℕ) (kept : IsKept count row keys roots) (more : ℕ) (low : more < length keys) (fresh : LacksRoot (map_of count row keys roots) more) where
  -- the roots of the first slots
  abbrev given : List ℕ
  given = map (λ (s : ℕ). get_or roots s 0) (take count row)

  fits : count ≤ length row
  fits = within count row keys roots kept

  given_size : length given ≡ count
  given_size = length-map (take count row) (λ (s : ℕ). get_or roots s 0) ∙ length-take-le count row fits

  given_at : (i d : ℕ) → i < count → get_or given i d ≡ get_or roots (get_or row i 0) 0
  given_at i d less = get_or-map (λ (s : ℕ). get_or roots s 0) (take count row) i 0 d (omega (arith, length-take-le count row fits)) ∙ ap (λ (s : ℕ). get_or roots s 0) (get_or-take count row i 0 less)

  given_low : (i d : ℕ) → i < count → get_or given i d < length keys
  given_low i d less = omega (arith, given_at i d less, kept.rooted.used i less, kept.roots_size)

  apart : (i j d : ℕ) → i < j → j < length (more ∷ given) → get_or (more ∷ given) i d ≢ get_or (more ∷ given) j d
  apart zero zero d less inside same = omega arith
  apart (suc i) zero d less inside same = omega arith
  apart zero (suc j) d less inside same =
      let high : j < count = omega (arith, given_size) in
      stands_nowhere count row keys roots kept more low fresh (get_or row j 0) (omega (arith, kept.keyed.below j high, kept.roots_size)) (sym (given_at j d high) ∙ sym same)
  apart (suc i) (suc j) d less inside same =
      let high : j < count = omega (arith, given_size) in
      let front : i < count = omega (arith, high, less) in
      let slot = one_of_root count row keys roots kept i (get_or row j 0) front (kept.keyed.below j high) (sym (given_at i d front) ∙ (same ∙ given_at j d high)) in
      let equal = one_of_slot count row keys roots kept i j (omega (arith, fits)) (omega (arith, fits)) slot in
      omega (arith, equal)

  at_low : (i d : ℕ) → i < length (more ∷ given) → get_or (more ∷ given) i d < length keys
  at_low zero d inside = low
  at_low (suc i) d inside = given_low i d (omega (arith, given_size))

  below : (q : ℕ) → Any (λ x. eqb q x ≡ true) (more ∷ given) → q < length keys
  below q (k, x, inside, is, test) = subst (λ (n : ℕ). n < length keys) (sym (eqb-true q x test ∙ sym is)) (at_low k x inside)

  pub room : count < length keys
  room =
      let few = length-le_from_distinct_below (more ∷ given) (length keys)
      (IsDistinct-from_apart eqb (more ∷ given) (λ i j d less inside. ne_eqb (get_or (more ∷ given) i d) (get_or (more ∷ given) j d) (apart i j d less inside)))
      (λ q found. below q (Any-from_list_any (eqb q) (more ∷ given) found)) in
      omega (arith, few, given_size)
