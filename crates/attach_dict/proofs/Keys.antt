-- The pairs that the rows of a map say: they go by rising key, and each key has the value of its root.
use Rattle.std.proofs.Common.{◌≡◌, ◌≢◌, ◌⊎◌, ℕ, zero, suc, ◌<◌, List, [], ◌∷◌, length, Some, None, inl, inr, refl, ap, ◌∙◌, subst, arith, ⊎_elim}
use Rattle.attach_dict.proofs.Common.{cases_eq, AllPairs, Contains, Keyed, KeyRoots, LacksKey, IsKeyMap}
use Rattle.dict_index.specs.KeyRoots.{IsKeyed, IsBelow, HasNoneFrom as AreAllBelow, IsNextFrom as IsNext}
use Rattle.attach_dict.specs.Dict.{value_of, AreAbove, AreRising}
use Rattle.attach_dict.specs.View.{value_in, pair_in, pairs_in, HasKey, HasNoneFrom, IsNextFrom}
use Rattle.attach_dict.proofs.Maps.{value_here, value_else, value_none}

-- lists

pub tail_has : {A : Type 0} (r : A) (rest : List A) (s : A) → Contains rest s → Contains (r ∷ rest) s
tail_has r rest s (k, inside, is) = (suc k, omega arith, is)

pub head_has : {A : Type 0} (r : A) (rest : List A) → Contains (r ∷ rest) r
head_has r rest = (0, omega arith, refl)

pub head_or_tail : {A : Type 0} (r : A) (rest : List A) (s : A) → Contains (r ∷ rest) s → (r ≡ s) ⊎ Contains rest s
head_or_tail r rest s (zero, inside, is) = inl is
head_or_tail r rest s (suc k, inside, is) = inr (k, omega arith, is)

-- each comes before those behind it
pub rising_tail : {A : Type 0} (R : A → A → Type 0) (r : A) (rest : List A) → AllPairs R (r ∷ rest) → AllPairs R rest
rising_tail R r rest rising i k d less inside = rising (suc i) (suc k) d (omega arith) (omega arith)

pub rising_head : {A : Type 0} (R : A → A → Type 0) (r : A) (rest : List A) → AllPairs R (r ∷ rest) → (s : A) → Contains rest s → R r s
rising_head R r rest rising s (k, inside, is) = subst (λ x. R r x) is (rising zero (suc k) s (omega arith) (omega arith))

-- the pairs of rows

module _ (words : List ℕ) where
  -- a key that no row has
  lacks : (rows : List Keyed) (key : ℕ) → ((s : Keyed) → Contains rows s → s.key ≢ key) → value_of (pairs_in words rows) key ≡ None
  unfolding pairs_in
  lacks [] key none = value_none key
  lacks (r ∷ rest) key none = value_else (pair_in words r) (pairs_in words rest) key (none r (head_has r rest)) ∙ lacks rest key (λ s has. none s (tail_has r rest s has))

  -- keys that are all above a number
  above_in : (low : ℕ) (rows : List Keyed) → ((s : Keyed) → Contains rows s → low < s.key) → AreAbove low (pairs_in words rows)
  unfolding pairs_in
  above_in low [] above = tt
  above_in low (r ∷ rest) above = (above r (head_has r rest), above_in low rest (λ s has. above s (tail_has r rest s has)))

  -- where they rise

  rising_in : (rows : List Keyed) → AllPairs IsBelow rows → AreRising (pairs_in words rows)
  unfolding pairs_in
  rising_in [] rising = tt
  rising_in (r ∷ rest) rising = (above_in r.key rest (λ s has. rising_head IsBelow r rest rising s has), rising_in rest (rising_tail IsBelow r rest rising))

  found_in : (rows : List Keyed) (r : Keyed) → AllPairs IsBelow rows → Contains rows r → value_of (pairs_in words rows) r.key ≡ Some (value_in words r.root)
  unfolding pairs_in
  found_in [] r rising (k, inside, is) = absurd (omega arith)
  found_in (a ∷ rest) r rising has = ⊎_elim
      (λ (here : a ≡ r). value_here (pair_in words a) (pairs_in words rest) r.key (ap (λ (x : Keyed). x.key) here) ∙ ap (λ (x : Keyed). Some (value_in words x.root)) here)
      (λ (there : Contains rest r).
      let less : a.key < r.key = rising_head IsBelow a rest rising r there in
      value_else (pair_in words a) (pairs_in words rest) r.key (λ same. omega (arith, same, less)) ∙ found_in rest r (rising_tail IsBelow a rest rising) there)
      (head_or_tail a rest r has)

  -- there are as many as rows
  pub length_in : (rows : List Keyed) → length (pairs_in words rows) ≡ length rows
  unfolding pairs_in
  length_in [] = refl
  length_in (r ∷ rest) = ap suc (length_in rest)

-- a list has an element, or none
pub some_row : {A : Type 0} (rows : List A) → ((r : A) → ¬ (Contains rows r)) ⊎ ((r : A) × Contains rows r)
some_row [] = inl (λ r (k, inside, is). omega arith)
some_row (r ∷ rest) = inr (r, head_has r rest)

-- a key has a row, or none
find_in : (rows : List Keyed) (key : ℕ) → ((s : Keyed) → Contains rows s → s.key ≢ key) ⊎ ((r : Keyed) × Contains rows r × (r.key ≡ key))
find_in [] key = inl (λ s (k, inside, is). absurd (omega arith))
find_in (a ∷ rest) key = ⊎_elim
    (λ (here : a.key ≡ key). inr (a, head_has a rest, here))
    (λ (apart : a.key ≢ key). ⊎_elim
    (λ (none : (s : Keyed) → Contains rest s → s.key ≢ key). inl (λ s has. ⊎_elim (λ (is : a ≡ s) (same : s.key ≡ key). apart (ap (λ (x : Keyed). x.key) is ∙ same)) (λ (there : Contains rest s). none s there) (head_or_tail a rest s has)))
    (λ (some : (r : Keyed) × Contains rest r × (r.key ≡ key)). inr (some.0, tail_has a rest some.0 some.1, some.2))
    (find_in rest key))
    (cases_eq a.key key)

-- maps

pub key_or_none : (keys : KeyRoots) (key : ℕ) → LacksKey keys key ⊎ HasKey keys key
unfolding IsKeyed
key_or_none keys key = ⊎_elim
    (λ (none : (s : Keyed) → Contains keys.rows s → s.key ≢ key). inl (record { none = none }))
    (λ (some : (r : Keyed) × Contains keys.rows r × (r.key ≡ key)). inr (record { row = some.0; is = some.1; key_is = some.2 }))
    (find_in keys.rows key)

-- no key has a root, or one has
pub some_key : (keys : KeyRoots) → ((r : Keyed) → ¬ (IsKeyed keys r)) ⊎ ((r : Keyed) × IsKeyed keys r)
unfolding IsKeyed
some_key keys = some_row keys.rows

module _ (words : List ℕ) (keys : KeyRoots) (sound : IsKeyMap keys) where
  pub rows_rising : AreRising (pairs_in words keys.rows)
  rows_rising = rising_in words keys.rows sound.rising

  -- what the pairs have of a key is the value of its root
  pub row_value : (r : Keyed) → IsKeyed keys r → value_of (pairs_in words keys.rows) r.key ≡ Some (value_in words r.root)
  unfolding IsKeyed
  row_value r is = found_in words keys.rows r sound.rising is

  -- and they lack one that no row has
  pub row_none : (key : ℕ) → LacksKey keys key → value_of (pairs_in words keys.rows) key ≡ None
  unfolding IsKeyed
  row_none key none = lacks words keys.rows key none.none

  -- none has a key from a number on where all keys are below it
  pub row_none_from : (key : ℕ) → AreAllBelow keys key → HasNoneFrom (pairs_in words keys.rows) key
  row_none_from key none = record { none = λ other from. row_none other (record { none = λ s has same. omega (arith, from, same, none.none s has) }) }

  -- and else the least one is that of the next row
  pub row_next : (key : ℕ) (r : Keyed) → IsNext keys key r → IsNextFrom (pairs_in words keys.rows) key r.key (value_in words r.root)
  row_next key r next = record {
    low = next.from;
    here = row_value r next.is;
    least = λ other from below. row_none other (record { none = λ s has same. omega (arith, below, same, next.least s has (omega (arith, from, same))) });
  }
