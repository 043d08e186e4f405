-- The keys and roots that the first slots of a row have: where each stands, and that they are a sound map.
use Rattle.std.proofs.Common.{◌≡◌, ◌≢◌, ⊎_elim, ℕ, ◌<◌, ◌≤◌, List, take, length, get_or, sym, ap, ◌∙◌, arith}
use Rattle.std.proofs.lemmas.Bool.{cases_lt}
use Rattle.std.proofs.lemmas.List.{get_or-map, length-map, get_or-take, length-take-le}
use Rattle.dict_index.specs.declared.key_map.Keyed.{Keyed}
use Rattle.dict_index.specs.KeyRoots.{KeyRoots, IsKeyed, IsKeyMap}
use Rattle.dict_index.specs.Kept.{keyed_at, keyed_in, map_of, no_root, IsKept, IsInRow, IsPlaceOf, IsCutAt}

-- a key with its root, by the place of its slot in the row
pub record IsAt (count : ℕ) (row keys roots : List ℕ) (r : Keyed) : Type 0 where
  pub place : ℕ
  pub low : place < count
  pub is : keyed_at keys roots (get_or row place 0) ≡ r

module _ (count : ℕ) (row keys roots : List ℕ) (within : count ≤ length row) where
  -- there are as many of them as slots
  pub length_rows : length (keyed_in keys roots (take count row)) ≡ count
  unfolding keyed_in
  length_rows = length-map (take count row) (keyed_at keys roots) ∙ length-take-le count row within

  -- and so as rows of the map that they say
  pub count_of : {value : KeyRoots} → map_of count row keys roots ≡ value → length value.rows ≡ count
  count_of is = sym (ap (λ (v : KeyRoots). length v.rows) is) ∙ length_rows

  -- each is what its slot has
  pub row_at : (i : ℕ) (d : Keyed) → i < count → get_or (keyed_in keys roots (take count row)) i d ≡ keyed_at keys roots (get_or row i 0)
  unfolding keyed_in
  row_at i d low = get_or-map (keyed_at keys roots) (take count row) i 0 d (omega (arith, length-take-le count row within)) ∙ ap (keyed_at keys roots) (get_or-take count row i 0 low)

  pub at_of : (r : Keyed) → IsKeyed (map_of count row keys roots) r → IsAt count row keys roots r
  unfolding IsKeyed
  at_of r (i, inside, is) = let low : i < count = omega (arith, length_rows) in record { place = i; low = low; is = sym (row_at i r low) ∙ is }

  pub keyed_of : (r : Keyed) → IsAt count row keys roots r → IsKeyed (map_of count row keys roots) r
  unfolding IsKeyed
  keyed_of r at = (at.place, omega (arith, length_rows, at.low), row_at at.place r at.low ∙ at.is)

  -- what stands at a place
  pub in_row : (place : ℕ) (r : Keyed) → place < count → keyed_at keys roots (get_or row place 0) ≡ r → IsInRow (map_of count row keys roots) place r
  in_row place r low is = record {
    within = omega (arith, length_rows);
    at = λ d. row_at place d low ∙ is;
    is = keyed_of r (record { place = place; low = low; is = is });
  }

  pub of_row : (place : ℕ) (r : Keyed) → IsInRow (map_of count row keys roots) place r → (place < count) × (keyed_at keys roots (get_or row place 0) ≡ r)
  of_row place r at = let low : place < count = omega (arith, length_rows, at.within) in (low, sym (row_at place r low) ∙ at.at r)

  -- a cut of the row is a place among the keys
  pub place_of_cut : (key place : ℕ) → IsCutAt row count keys key place → IsPlaceOf (map_of count row keys roots) key place
  place_of_cut key place cut = record {
    within = omega (arith, length_rows, cut.within);
    before = λ i d low. let e = ap (λ (r : Keyed). r.key) (row_at i d (omega (arith, cut.within))) in omega (arith, e, cut.before i low);
    behind = λ i d high inside.
        let low : i < count = omega (arith, length_rows) in
        let e = ap (λ (r : Keyed). r.key) (row_at i d low) in
        omega (arith, e, cut.behind i high low);
  }

  -- and the other way round
  pub cut_of_place : (key place : ℕ) → IsPlaceOf (map_of count row keys roots) key place → IsCutAt row count keys key place
  cut_of_place key place at = record {
    within = omega (arith, length_rows, at.within);
    before = λ i low.
        let d : Keyed = record { key = 0; root = 0 } in
        let e = ap (λ (r : Keyed). r.key) (row_at i d (omega (arith, length_rows, at.within))) in
        omega (arith, e, at.before i d low);
    behind = λ i high low.
        let d : Keyed = record { key = 0; root = 0 } in
        let e = ap (λ (r : Keyed). r.key) (row_at i d low) in
        omega (arith, e, at.behind i d high (omega (arith, length_rows)));
  }

module _ (count : ℕ) (row keys roots : List ℕ) (kept : IsKept count row keys roots) where
  pub within : count ≤ length row
  within = kept.keyed.within

  -- a key stands at one place
  pub one_of_key : (i j : ℕ) → i < count → j < count → get_or keys (get_or row i 0) 0 ≡ get_or keys (get_or row j 0) 0 → i ≡ j
  one_of_key i j low also same = ⊎_elim
      (λ (less : i < j). absurd (omega (arith, same, kept.keyed.rising i j less also)))
      (λ (no_less : j ≤ i). ⊎_elim
      (λ (more : j < i). absurd (omega (arith, same, kept.keyed.rising j i more low)))
      (λ (no_more : i ≤ j). let is : i ≡ j = omega arith in is)
      (cases_lt j i))
      (cases_lt i j)

  -- a slot with a key has a root
  pub has_root : (i : ℕ) → i < count → get_or roots (get_or row i 0) 0 ≢ no_root
  has_root i low none = omega (arith, none, kept.rooted.used i low, kept.roots_size, kept.few)

  -- a root stands in one slot
  pub one_of_root : (i slot : ℕ) → i < count → slot < length keys → get_or roots (get_or row i 0) 0 ≡ get_or roots slot 0 → get_or row i 0 ≡ slot
  one_of_root i slot low inside same =
      kept.rooted.once (get_or row i 0) slot (omega (arith, kept.roots_size, kept.keyed.below i low)) (omega (arith, kept.roots_size)) same (has_root i low)

  -- a slot stands at one place
  pub one_of_slot : (i j : ℕ) → i < length row → j < length row → get_or row i 0 ≡ get_or row j 0 → i ≡ j
  one_of_slot = kept.slots.once

  pub sound_of : IsKeyMap (map_of count row keys roots)
  sound_of = record {
    rising = λ i j d less inside.
        let low : j < count = omega (arith, length_rows count row keys roots within) in
        let a = ap (λ (r : Keyed). r.key) (row_at count row keys roots within i d (omega arith)) in
        let b = ap (λ (r : Keyed). r.key) (row_at count row keys roots within j d low) in
        omega (arith, a, b, kept.keyed.rising i j less low);
    narrow = λ r is. let at = at_of count row keys roots within r is in let e = ap (λ (s : Keyed). s.key) at.is in omega (arith, e, kept.narrow (get_or row at.place 0));
    below = λ r is. let at = at_of count row keys roots within r is in let e = ap (λ (s : Keyed). s.root) at.is in omega (arith, e, kept.rooted.used at.place at.low, kept.roots_size);
    key_once = λ r s is also same.
        let a = at_of count row keys roots within r is in
        let b = at_of count row keys roots within s also in
        let equal = one_of_key a.place b.place a.low b.low (ap (λ (x : Keyed). x.key) a.is ∙ (same ∙ sym (ap (λ (x : Keyed). x.key) b.is))) in
        sym a.is ∙ (ap (λ (i : ℕ). keyed_at keys roots (get_or row i 0)) equal ∙ b.is);
    root_once = λ r s is also same.
        let a = at_of count row keys roots within r is in
        let b = at_of count row keys roots within s also in
        let equal = one_of_root a.place (get_or row b.place 0) a.low (kept.keyed.below b.place b.low) (ap (λ (x : Keyed). x.root) a.is ∙ (same ∙ sym (ap (λ (x : Keyed). x.root) b.is))) in
        sym a.is ∙ (ap (keyed_at keys roots) equal ∙ b.is);
    few = omega (arith, length_rows count row keys roots within, within, kept.slots.size);
  }

  -- a slot that has a root has a key with it in the map
  pub keyed_in_slot : (slot : ℕ) → slot < length keys → get_or roots slot 0 ≢ no_root → IsAt count row keys roots (keyed_at keys roots slot)
  keyed_in_slot slot inside some =
      let held = kept.rooted.held slot (omega (arith, kept.roots_size)) some in
      record { place = held.0; low = held.1; is = ap (keyed_at keys roots) held.2 }
