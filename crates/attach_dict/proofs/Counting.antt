-- Which block counts for a key: one root at most, and a pair that does not count is stale.
use Rattle.std.proofs.Common.{◌≡◌, ◌≢◌, ◌⊎◌, ℕ, ◌<◌, ◌≤◌, List, Option, Some, None, inl, inr, refl, sym, ap, subst, arith, ⊎_elim}
use Rattle.std.proofs.lemmas.Bool.{cases_eq, cases_lt}
use Rattle.attach_dict.specs.Dict.{Pair, stage, HasSome, IsPair, Counts, IsFit, IsValueOf, value_of, IsDict, IsStaleRoot, LawOfDicts}
use Rattle.attach_dict.proofs.Pairs.{some_of, IsSamePair, pair_once}
use Rattle.attach_dict.proofs.Maps.{same_map}

-- the block of each root but the stage is fit
abbrev pub AllFit : List ℕ → Type 0
AllFit words = (root : ℕ) → stage < root → HasSome words root → IsFit words root

module _ (words : List ℕ) (fit : AllFit words) where
  -- no lower root has the key and the number of another
  not_lower : (lower root key number : ℕ) (value also : List ℕ) → lower < root → IsPair words lower key number value → IsPair words root key number also → ⊥
  not_lower lower root key number value also less a b =
      let f = fit root b.low (some_of b) in
      let same : IsSamePair key f.key number f.number also f.value = pair_once words root key f.key number f.number also f.value b.has f.pair.has in
      f.once lower value less (subst (λ (k : ℕ). IsPair words lower k f.number value) same.key_is (subst (λ (n : ℕ). IsPair words lower key n value) same.number_is a))

  -- so one root has both
  pub one_root : (root other key number : ℕ) (value also : List ℕ) → IsPair words root key number value → IsPair words other key number also → root ≡ other
  one_root root other key number value also a b = ⊎_elim
      (λ (less : root < other). absurd (not_lower root other key number value also less a b))
      (λ (from : other ≤ root). ⊎_elim (λ (more : other < root). absurd (not_lower other root key number also value more b a)) (λ (to : root ≤ other). omega arith) (cases_lt other root))
      (cases_lt root other)

  -- one value counts for a key
  pub counts_once : (root other key : ℕ) (value also : List ℕ) → Counts words root key value → Counts words other key also → (root ≡ other) × (value ≡ also)
  counts_once root other key value also a b =
      let number : a.number ≡ b.number = omega (arith, a.greatest other b.number also b.pair, b.greatest root a.number value a.pair) in
      let here : IsPair words root key b.number value = subst (λ (n : ℕ). IsPair words root key n value) number a.pair in
      let same : root ≡ other = one_root root other key b.number value also here b.pair in
      let there : IsPair words other key b.number value = subst (λ (r : ℕ). IsPair words r key b.number value) same here in
      (same, (pair_once words other key key b.number b.number value also there.has b.pair.has).value_is)

  value_once : (key : ℕ) (one other : Option (List ℕ)) → IsValueOf words key one → IsValueOf words key other → one ≡ other
  value_once key None None a b = refl
  value_once key None (Some v) a b = absurd (a b.0 b.1.number v b.1.pair)
  value_once key (Some v) None a b = absurd (b a.0 a.1.number v a.1.pair)
  value_once key (Some v) (Some w) a b = ap Some (counts_once a.0 b.0 key v w a.1 b.1).1

module _ (words : List ℕ) (pairs : List Pair) (dict : IsDict words pairs) where
  -- what counts for a key is the value that the map has
  pub value_is : (key : ℕ) (value : Option (List ℕ)) → IsValueOf words key value → value_of pairs key ≡ value
  value_is key value is = value_once words dict.fit key (value_of pairs key) value (dict.each key) is

  -- and what the map has counts
  pub value_counts : (key : ℕ) (value : Option (List ℕ)) → value_of pairs key ≡ value → IsValueOf words key value
  value_counts key value is = subst (λ (v : Option (List ℕ)). IsValueOf words key v) is (dict.each key)

  -- another one of the key is stale
  pub other_stale : (root counting key number : ℕ) (value also : List ℕ) → IsPair words root key number value → Counts words counting key also → root ≢ counting → IsStaleRoot words root
  other_stale root counting key number value also pair counts apart = record {
    low = pair.low;
    some = some_of pair;
    less = λ k v is.
        let same : IsSamePair k key is.number number v value = pair_once words root k key is.number number v value is.pair.has pair.has in
        let here : Counts words root key v = subst (λ (n : ℕ). Counts words root n v) same.key_is is in
        apart (counts_once words dict.fit root counting key v also here counts).0;
  }

  counts_by : (root key number : ℕ) (value : List ℕ) (found : Option (List ℕ)) → IsPair words root key number value → IsValueOf words key found → Counts words root key value ⊎ IsStaleRoot words root
  counts_by root key number value None pair none = absurd (none root number value pair)
  counts_by root key number value (Some also) pair (counting, counts) = ⊎_elim
      (λ (same : counting ≡ root).
      let here : Counts words root key also = subst (λ (r : ℕ). Counts words r key also) same counts in
      let once : IsSamePair key key here.number number also value = pair_once words root key key here.number number also value here.pair.has pair.has in
      inl (subst (λ (v : List ℕ). Counts words root key v) once.value_is here))
      (λ (apart : counting ≢ root). inr (other_stale root counting key number value also pair counts (λ is. apart (sym is))))
      (cases_eq counting root)

  -- a pair counts, or it is stale
  pub counts_or_stale : (root key number : ℕ) (value : List ℕ) → IsPair words root key number value → Counts words root key value ⊎ IsStaleRoot words root
  counts_or_stale root key number value pair = counts_by root key number value (value_of pairs key) pair (dict.each key)

pub law_of_dicts : LawOfDicts
law_of_dicts words pairs others a b = same_map pairs others a.rising b.rising (λ key. value_is words pairs a key (value_of others key) (b.each key))
