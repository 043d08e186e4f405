-- A map, gone through by rising key.
use Rattle.std.proofs.Common.{◌≡◌, ◌⊎◌, ℕ, ◌+◌, ◌<◌, ◌≤◌, ◌^◌, List, [], ◌∷◌, ◌++◌, length, length-append, flat_map, Some, None, refl, sym, ap, ◌∙◌, subst, append_assoc, inl, inr, ⊎_elim, arith}
use Rattle.dict_runs.proofs.Common.{min, flat_map-append, append-nil, cases_lt, Pair, value_of, AreAbove, AreRising, value_here, value_else, absent, pair_line}
use Rattle.attach_dict.specs.View.{HasNoneFrom, IsNextFrom}

-- every key is this one or above it
abbrev AreFrom : ℕ → List Pair → Type 0
AreFrom low [] = Unit {0}
AreFrom low (pair ∷ pairs) = (low ≤ pair.key) × AreFrom low pairs

-- So many pairs were written, and what is left begins at this key or above it, unless nothing is left.
pub record IsListed (pairs : List Pair) (many from : ℕ) (written : List ℕ) : Type 0 where
  pub front : List Pair
  pub rest : List Pair
  pub is : pairs ≡ front ++ rest
  pub count : length front ≡ many
  pub text : written ≡ flat_map pair_line front
  pub rising : AreRising rest
  pub left : (rest ≡ []) ⊎ (AreFrom from rest × ((key : ℕ) → from ≤ key → value_of pairs key ≡ value_of rest key))

-- at the start
all_from : (pairs : List Pair) → AreFrom 0 pairs
all_from [] = tt
all_from (pair ∷ pairs) = (omega arith, all_from pairs)

pub listed_none : (pairs : List Pair) → AreRising pairs → IsListed pairs 0 0 []
listed_none pairs rising = record { front = []; rest = pairs; is = refl; count = refl; text = refl; rising = rising; left = inr (all_from pairs, λ key low. refl) }

-- at the end
pub listed_all : (pairs : List Pair) (many from : ℕ) (written : List ℕ) → IsListed pairs many from written → many ≡ length pairs → written ≡ flat_map pair_line pairs
listed_all pairs many from written listed all = by_rest listed.rest listed.is
  where
    by_rest : (rest : List Pair) → pairs ≡ listed.front ++ rest → written ≡ flat_map pair_line pairs
    by_rest [] is = listed.text ∙ ap (flat_map pair_line) (sym (is ∙ append-nil listed.front))
    by_rest (p ∷ rest) is =
        let long : length pairs ≡ length listed.front + length (p ∷ rest) = ap length is ∙ length-append listed.front (p ∷ rest) in
        let count = listed.count in
        absurd (omega (arith, long, count, all))

-- keys that all are above a number begin at the next one
from_above : (low : ℕ) (pairs : List Pair) → AreAbove low pairs → AreFrom (low + 1) pairs
from_above low [] above = tt
from_above low (pair ∷ pairs) above = (omega (arith, above.0), from_above low pairs above.1)

-- one pair further
module _ (pairs : List Pair) (many from key : ℕ) (value written : List ℕ) (short : many < length pairs) (narrow : HasNoneFrom pairs (2 ^ 64)) (next : IsNextFrom pairs from key value) (listed : IsListed pairs many from written) where
  module _ (p : Pair) (rest : List Pair) (is : pairs ≡ listed.front ++ p ∷ rest) (rising : AreRising (p ∷ rest)) (low : from ≤ p.key) (same : (k : ℕ) → from ≤ k → value_of pairs k ≡ value_of (p ∷ rest) k) where
    here : value_of (p ∷ rest) key ≡ Some value
    here = sym (same key next.low) ∙ next.here

    not_above : p.key < key → ⊥
    not_above less =
        let none : value_of pairs p.key ≡ None = next.least p.key low less in
        let some : value_of pairs p.key ≡ Some p.value = same p.key low ∙ value_here p rest p.key refl in
        cc (none, some)

    not_below : key < p.key → ⊥
    not_below less =
        let none : value_of (p ∷ rest) key ≡ None = value_else p rest key (λ is. omega (arith, is, less)) ∙ absent p.key rest key rising.0 (omega (arith, less)) in
        let some = here in
        cc (none, some)

    key_is : p.key ≡ key
    key_is = ⊎_elim (λ less. absurd (not_above less)) (λ more. ⊎_elim (λ less. absurd (not_below less)) (λ to. omega (arith, more, to)) (cases_lt key p.key)) (cases_lt p.key key)

    first_is : p ≡ record { key = key; value = value }
    first_is =
        let both : Some p.value ≡ Some value = sym (value_here p rest key key_is) ∙ here in
        let value_is : p.value ≡ value = cc both in
        let keys = key_is in
        λ i. record { key = keys i; value = value_is i }

    -- behind it a key is looked for in the rest
    behind : (then : ℕ) → p.key < then → (k : ℕ) → then ≤ k → value_of pairs k ≡ value_of rest k
    behind then more k far = same k (omega (arith, low, more, far)) ∙ value_else p rest k (λ is. omega (arith, is, more, far))

    -- where there is no greater key, nothing is left
    none_left : (rest : List Pair) → AreAbove p.key rest → ((k : ℕ) → p.key < k → value_of pairs k ≡ value_of rest k) → key + 1 ≡ 2 ^ 64 → rest ≡ []
    none_left [] above same last = refl
    none_left (q ∷ rest) above same last =
        let keys = key_is in
        let none : value_of pairs q.key ≡ None = narrow.none q.key (omega (arith, last, keys, above.0)) in
        let some : value_of pairs q.key ≡ Some q.value = same q.key above.0 ∙ value_here q rest q.key refl in
        absurd (cc (none, some))

    further : (then : ℕ) → (then ≡ key + 1) ⊎ ((key + 1 ≡ 2 ^ 64) × (then ≡ key)) → IsListed pairs (many + 1) then (written ++ pair_line (record { key = key; value = value }))
    further then step =
        let keys = key_is in
        let count = listed.count in
        record {
          front = listed.front ++ p ∷ [];
          rest = rest;
          is = is ∙ sym (append_assoc listed.front (p ∷ []) rest);
          count = length-append listed.front (p ∷ []) ∙ (let one : length listed.front + 1 ≡ many + 1 = omega (arith, count) in one);
          text = ap (λ (t : List ℕ). t ++ pair_line (record { key = key; value = value })) listed.text
              ∙ (ap (λ (q : Pair). flat_map pair_line listed.front ++ pair_line q) (sym first_is)
              ∙ sym (flat_map-append pair_line listed.front (p ∷ []) ∙ ap (λ (t : List ℕ). flat_map pair_line listed.front ++ t) (append-nil (pair_line p))));
          rising = rising.1;
          left = ⊎_elim
              (λ one. inr (subst (λ n. AreFrom n rest) (ap (λ n. n + 1) keys ∙ sym one) (from_above p.key rest rising.0), behind then (omega (arith, one, keys))))
              (λ last. inl (none_left rest rising.0 (λ k more. behind k more k (omega arith)) last.0))
              step;
        }

  pub listed_more : (then : ℕ) → (then ≡ key + 1) ⊎ ((key + 1 ≡ 2 ^ 64) × (then ≡ key)) → IsListed pairs (many + 1) then (written ++ pair_line (record { key = key; value = value }))
  listed_more then step = by_rest listed.rest listed.is listed.rising listed.left
    where
      by_rest : (rest : List Pair) → pairs ≡ listed.front ++ rest → AreRising rest → (rest ≡ []) ⊎ (AreFrom from rest × ((k : ℕ) → from ≤ k → value_of pairs k ≡ value_of rest k)) →
          IsListed pairs (many + 1) then (written ++ pair_line (record { key = key; value = value }))
      by_rest [] is rising left = absurd (let long : length pairs ≡ length listed.front + 0 = ap length is ∙ length-append listed.front [] in let count = listed.count in omega (arith, long, count, short))
      by_rest (p ∷ rest) is rising (inl none) = absurd (cc none)
      by_rest (p ∷ rest) is rising (inr left) = further p rest is rising left.0.0 left.1 then step

-- a pair is left
pub some_left : (pairs : List Pair) (many from : ℕ) (written : List ℕ) → many < length pairs → IsListed pairs many from written → HasNoneFrom pairs from → ⊥
some_left pairs many from written short listed none = by_rest listed.rest listed.is listed.left
  where
    by_rest : (rest : List Pair) → pairs ≡ listed.front ++ rest → (rest ≡ []) ⊎ (AreFrom from rest × ((k : ℕ) → from ≤ k → value_of pairs k ≡ value_of rest k)) → ⊥
    by_rest [] is left = let long : length pairs ≡ length listed.front + 0 = ap length is ∙ length-append listed.front [] in let count = listed.count in omega (arith, long, count, short)
    by_rest (p ∷ rest) is (inl nothing) = cc nothing
    by_rest (p ∷ rest) is (inr left) =
        let lacks : value_of pairs p.key ≡ None = none.none p.key left.0.0 in
        let has : value_of pairs p.key ≡ Some p.value = left.1 p.key left.0.0 ∙ value_here p rest p.key refl in
        cc (lacks, has)

-- what is looked for next: the next key, where there is one
pub saturated : (key then : ℕ) → key < 2 ^ 64 → then ≡ min (key + 1) 18446744073709551615 → (then ≡ key + 1) ⊎ ((key + 1 ≡ 2 ^ 64) × (then ≡ key))
saturated key then fits is = ⊎_elim
    (λ (h : key < 18446744073709551615). inl (omega (arith, is, h)))
    (λ (h : 18446744073709551615 ≤ key). inr (omega (arith, fits, h), omega (arith, is, fits, h)))
    (cases_lt key 18446744073709551615)

-- a key that was found has 64 bits
pub narrow_key : (pairs : List Pair) (from key : ℕ) (value : List ℕ) → HasNoneFrom pairs (2 ^ 64) → IsNextFrom pairs from key value → key < 2 ^ 64
narrow_key pairs from key value narrow next = ⊎_elim (λ fits. fits) (λ past. absurd (let none = narrow.none key past in let some = next.here in cc (none, some))) (cases_lt key (2 ^ 64))
