-- Rows of heads: their order, and the roots that have the key and the number of a lower one.
use Rattle.std.proofs.Common.{◌≡◌, ◌≢◌, ◌⊎◌, ℕ, zero, suc, ◌+◌, ◌-◌, ◌<◌, ◌≤◌, false, true≢false, eqb, List, length, map, get_or, Option, Some, None, inl, inr, refl, sym, ap, ◌∙◌, subst, arith, ⊎_elim}
use Rattle.std.specs.Prelude.{IsPermutation, IsSorted}
use Rattle.std.specs.Ordering.{is_lt, nat_cmp, ordering_then, MatchOrdering}
use Rattle.std.specs.declared.cmp.Ordering.{Ordering}
use Rattle.std.specs.declared.cmp.Ordering.TheVariants.{Less, Equal, Greater}
use Rattle.std.proofs.lemmas.Cmp.{ranked}
use Rattle.std.proofs.lemmas.Bool.Decides.{Decides-eqb}
use Rattle.std.proofs.lemmas.List.{get_or-map, length-map, get_or_default}
use Rattle.std.proofs.lemmas.List.Elements.{Contains-get_or}
use Rattle.std.proofs.lemmas.List.Sorted.{IsPermutation-map}
use Rattle.std.proofs.lemmas.Map.Keys.{IsDistinct-IsPermutation}
use Rattle.std.proofs.lemmas.Map.Made.{IsDistinct-from_AllPairs, AllPairs-from_IsDistinct}
use Rattle.attach_dict.proofs.Common.{cases_eq, cases_lt, eq-eqb, ne_eqb, IsLeastOf}
use Rattle.image_defects.specs.Least.{HasNone, IsLeast}
use Rattle.attach_dict.specs.declared.heads.Head.{Head}
use Rattle.attach_dict.specs.Heads.{IsBefore, AreApart, AreInOrder, IsTwice, lower_of}

-- order

pub before_key : (a b : Head) → IsBefore a b → a.key ≤ b.key
before_key a b (inl less) = omega (arith, less)
before_key a b (inr (same, rest)) = omega (arith, same)

pub before_number : (a b : Head) → IsBefore a b → a.key ≡ b.key → a.number ≤ b.number
before_number a b (inl less) key = absurd (omega (arith, less, key))
before_number a b (inr (same, inl less)) key = omega (arith, less)
before_number a b (inr (same, inr (number, root))) key = omega (arith, number)

pub before_root : (a b : Head) → IsBefore a b → a.key ≡ b.key → a.number ≡ b.number → a.root < b.root
before_root a b (inl less) key number = absurd (omega (arith, less, key))
before_root a b (inr (same, inl less)) key number = absurd (omega (arith, less, number))
before_root a b (inr (same, inr (also, root))) key number = root

pub before_trans : (a b c : Head) → IsBefore a b → IsBefore b c → IsBefore a c
before_trans a b c (inl k) (inl l) = inl (omega (arith, k, l))
before_trans a b c (inl k) (inr (t, rest)) = inl (omega (arith, k, t))
before_trans a b c (inr (s, rest)) (inl l) = inl (omega (arith, s, l))
before_trans a b c (inr (s, inl n)) (inr (t, inl m)) = inr (s ∙ t, inl (omega (arith, n, m)))
before_trans a b c (inr (s, inl n)) (inr (t, inr (u, q))) = inr (s ∙ t, inl (omega (arith, n, u)))
before_trans a b c (inr (s, inr (n, r))) (inr (t, inl m)) = inr (s ∙ t, inl (omega (arith, n, m)))
before_trans a b c (inr (s, inr (n, r))) (inr (t, inr (u, q))) = inr (s ∙ t, inr (n ∙ u, omega (arith, r, q)))

pub before_irreflexive : (a : Head) → ¬ (IsBefore a a)
before_irreflexive a (inl less) = omega (arith, less)
before_irreflexive a (inr (same, inl less)) = omega (arith, less)
before_irreflexive a (inr (same, inr (number, root))) = omega (arith, root)

-- as a comparison says it

abbrev pub head_cmp : Head → Head → Ordering
head_cmp a b = ordering_then (nat_cmp a.key b.key) (ordering_then (nat_cmp a.number b.number) (nat_cmp a.root b.root))

then_by : (x y : ℕ) (r o : Ordering) → MatchOrdering r (x < y) (x ≡ y) (y < x) → is_lt (ordering_then r o) ≡ false → (y < x) ⊎ ((x ≡ y) × (is_lt o ≡ false))
then_by x y Less o less is = absurd (true≢false is)
then_by x y Equal o same is = inr (same, is)
then_by x y Greater o more is = inl more

not_by : (x y : ℕ) (r : Ordering) → MatchOrdering r (x < y) (x ≡ y) (y < x) → is_lt r ≡ false → y ≤ x
not_by x y Less less is = absurd (true≢false is)
not_by x y Equal same is = omega (arith, same)
not_by x y Greater more is = omega (arith, more)

before_of : (a b : Head) → is_lt (head_cmp b a) ≡ false → a.root ≢ b.root → IsBefore a b
before_of a b is apart = ⊎_elim
    (λ less. inl less)
    (λ s. inr (
      sym s.0,
      ⊎_elim
          (λ less. inl less)
          (λ t. inr (sym t.0, omega (arith, apart, not_by b.root a.root (nat_cmp b.root a.root) (ranked b.root a.root (nat_cmp b.root a.root) refl) t.1)))
          (then_by b.number a.number (nat_cmp b.number a.number) (nat_cmp b.root a.root) (ranked b.number a.number (nat_cmp b.number a.number) refl) s.1),
    ))
    (then_by b.key a.key (nat_cmp b.key a.key) (ordering_then (nat_cmp b.number a.number) (nat_cmp b.root a.root)) (ranked b.key a.key (nat_cmp b.key a.key) refl) is)

-- rows of different roots

root_at : (heads : List Head) (i : ℕ) (d : Head) → i < length heads → get_or (map (λ (h : Head). h.root) heads) i 0 ≡ (get_or heads i d).root
root_at heads i d low = get_or-map (λ (h : Head). h.root) heads i d 0 low

pub apart_at : (heads : List Head) → AreApart heads → (i j : ℕ) (d : Head) → i < j → j < length heads → (get_or heads i d).root ≢ (get_or heads j d).root
apart_at heads apart i j d less inside same =
    apart i j 0 less (omega (arith, inside, length-map heads (λ (h : Head). h.root))) (root_at heads i d (omega (arith, less, inside)) ∙ (same ∙ sym (root_at heads j d inside)))

-- sorted rows

module _ (heads : List Head) (apart : AreApart heads) (sorted : IsSorted head_cmp heads) where
  next : (k : ℕ) (d : Head) → k + 1 < length heads → IsBefore (get_or heads k d) (get_or heads (k + 1) d)
  next k d low = before_of (get_or heads k d) (get_or heads (k + 1) d) (sorted k d (omega arith) low) (apart_at heads apart k (k + 1) d (omega arith) low)

  far : (m i j : ℕ) (d : Head) → j ≡ i + 1 + m → j < length heads → IsBefore (get_or heads i d) (get_or heads j d)
  far zero i j d is low = subst (λ (n : ℕ). IsBefore (get_or heads i d) (get_or heads n d)) (omega (arith, is)) (next i d (omega (arith, is, low)))
  far (suc m) i j d is low =
      let k : ℕ = i + 1 + m in
      before_trans (get_or heads i d) (get_or heads k d) (get_or heads j d) (far m i k d refl (omega (arith, is, low)))
      (subst (λ (n : ℕ). IsBefore (get_or heads k d) (get_or heads n d)) (omega (arith, is)) (next k d (omega (arith, is, low))))

  pub in_order : AreInOrder heads
  in_order = record { apart = apart; rising = λ i j d less inside. far (j - (i + 1)) i j d (omega (arith, less)) inside }

-- a permutation keeps the roots apart

flips : (x y : ℕ) → eqb x y ≡ eqb y x
flips x y = ⊎_elim
    (λ (same : x ≡ y). eq-eqb x y same ∙ sym (eq-eqb y x (sym same)))
    (λ (apart : x ≢ y). ne_eqb x y apart ∙ sym (ne_eqb y x (λ is. apart (sym is))))
    (cases_eq x y)

pub still_apart : (heads sorted : List Head) → IsPermutation heads sorted → AreApart heads → AreApart sorted
still_apart heads sorted moved apart =
    AllPairs-from_IsDistinct {K = ℕ} {eq = eqb} Decides-eqb (map (λ (h : Head). h.root) sorted)
    (IsDistinct-IsPermutation eqb flips (map (λ (h : Head). h.root) heads) (map (λ (h : Head). h.root) sorted) (IsPermutation-map (λ (h : Head). h.root) heads sorted moved)
    (IsDistinct-from_AllPairs {K = ℕ} {eq = eqb} Decides-eqb (map (λ (h : Head). h.root) heads) apart))

-- a root that has the key and the number of a lower one

-- two neighbours of a row have one key and one number, and the second this root
pub record AreAlike (heads : List Head) (k root : ℕ) : Type 0 where
  pub inside : k + 1 < length heads
  pub key : (d : Head) → (get_or heads k d).key ≡ (get_or heads (k + 1) d).key
  pub number : (d : Head) → (get_or heads k d).number ≡ (get_or heads (k + 1) d).number
  pub root_is : (d : Head) → (get_or heads (k + 1) d).root ≡ root

-- some two neighbours of those below a place have
pub record IsAlikeBelow (heads : List Head) (place root : ℕ) : Type 0 where
  pub k : ℕ
  pub low : k + 1 < place
  pub are : AreAlike heads k root

-- as two reads say it
module _ (heads : List Head) (place : ℕ) (some : 0 < place) (inside : place < length heads) where
  abbrev first_read : Head
  first_read = get_or heads (place - 1) (record { key = 0; number = 0; root = 0 })

  abbrev second_read : Head
  second_read = get_or heads place (record { key = 0; number = 0; root = 0 })

  first_is : (d : Head) → first_read ≡ get_or heads (place - 1) d
  first_is d = get_or_default heads (place - 1) (record { key = 0; number = 0; root = 0 }) d (omega (arith, inside))

  second_is : (d : Head) → second_read ≡ get_or heads (place - 1 + 1) d
  second_is d = get_or_default heads place (record { key = 0; number = 0; root = 0 }) d inside ∙ ap (λ (n : ℕ). get_or heads n d) (omega (arith, some))

  pub alike_by : (first_read.key ≡ second_read.key) × (first_read.number ≡ second_read.number) → AreAlike heads (place - 1) second_read.root
  alike_by same = record {
    inside = omega (arith, some, inside);
    key = λ d. sym (ap (λ (h : Head). h.key) (first_is d)) ∙ (same.0 ∙ ap (λ (h : Head). h.key) (second_is d));
    number = λ d. sym (ap (λ (h : Head). h.number) (first_is d)) ∙ (same.1 ∙ ap (λ (h : Head). h.number) (second_is d));
    root_is = λ d. sym (ap (λ (h : Head). h.root) (second_is d));
  }

  pub alike_not : ¬ ((first_read.key ≡ second_read.key) × (first_read.number ≡ second_read.number)) → (root : ℕ) → ¬ (AreAlike heads (place - 1) root)
  alike_not not root a = not (
    ap (λ (h : Head). h.key) (first_is first_read) ∙ (a.key first_read ∙ sym (ap (λ (h : Head). h.key) (second_is first_read))),
    ap (λ (h : Head). h.number) (first_is first_read) ∙ (a.number first_read ∙ sym (ap (λ (h : Head). h.number) (second_is first_read))),
  )

-- one place more, where its head is not like the one before it
pub alike_same : (heads : List Head) (place : ℕ) (first : Option ℕ) → ((root : ℕ) → ¬ (AreAlike heads (place - 1) root)) → IsLeastOf (IsAlikeBelow heads place) first → IsLeastOf (IsAlikeBelow heads (place + 1)) first
alike_same heads place None not none = record { none = λ root a. not_more heads place root not none a }
  where
    not_more : (heads : List Head) (place root : ℕ) → ((root : ℕ) → ¬ (AreAlike heads (place - 1) root)) → HasNone (IsAlikeBelow heads place) → IsAlikeBelow heads (place + 1) root → ⊥
    not_more heads place root not none a = ⊎_elim
        (λ (low : a.k + 1 < place). none.none root (record { k = a.k; low = low; are = a.are }))
        (λ (high : place ≤ a.k + 1). not root (subst (λ (k : ℕ). AreAlike heads k root) (omega (arith, high, a.low)) a.are))
        (cases_lt (a.k + 1) place)
alike_same heads place (Some root) not least = record {
  here = record { k = least.here.k; low = omega (arith, least.here.low); are = least.here.are };
  least = λ other a. ⊎_elim
      (λ (low : a.k + 1 < place). least.least other (record { k = a.k; low = low; are = a.are }))
      (λ (high : place ≤ a.k + 1). absurd (not other (subst (λ (k : ℕ). AreAlike heads k other) (omega (arith, high, a.low)) a.are)))
      (cases_lt (a.k + 1) place);
}

-- and where it is
alike_root : (heads : List Head) (k one other : ℕ) → AreAlike heads k one → AreAlike heads k other → one ≡ other
alike_root heads k one other a b = sym (a.root_is (record { key = 0; number = 0; root = 0 })) ∙ b.root_is (record { key = 0; number = 0; root = 0 })

pub alike_more : (heads : List Head) (place root : ℕ) (first : Option ℕ) → 0 < place → AreAlike heads (place - 1) root → IsLeastOf (IsAlikeBelow heads place) first → IsLeast (IsAlikeBelow heads (place + 1)) (lower_of first root)
alike_more heads place root None some are none = record {
  here = record { k = place - 1; low = omega (arith, some); are = are };
  least = λ other a. ⊎_elim
      (λ (low : a.k + 1 < place). absurd (none.none other (record { k = a.k; low = low; are = a.are })))
      (λ (high : place ≤ a.k + 1). omega (arith, alike_root heads (place - 1) root other are (subst (λ (k : ℕ). AreAlike heads k other) (omega (arith, high, a.low)) a.are)))
      (cases_lt (a.k + 1) place);
}
alike_more heads place root (Some was) some are least = record {
  here = ⊎_elim
      (λ (low : was < root). subst (λ (n : ℕ). IsAlikeBelow heads (place + 1) n) (omega (arith, low)) (record { k = least.here.k; low = omega (arith, least.here.low); are = least.here.are }))
      (λ (from : root ≤ was). subst (λ (n : ℕ). IsAlikeBelow heads (place + 1) n) (omega (arith, from)) (record { k = place - 1; low = omega (arith, some); are = are }))
      (cases_lt was root);
  least = λ other a. ⊎_elim
      (λ (low : a.k + 1 < place). omega (arith, least.least other (record { k = a.k; low = low; are = a.are })))
      (λ (high : place ≤ a.k + 1). omega (arith, alike_root heads (place - 1) root other are (subst (λ (k : ℕ). AreAlike heads k other) (omega (arith, high, a.low)) a.are)))
      (cases_lt (a.k + 1) place);
}

-- in a row in order such a root is one that has the key and the number of a lower one, and each of those is such a one

module _ (heads : List Head) (order : AreInOrder heads) where
  abbrev any : Head
  any = record { key = 0; number = 0; root = 0 }

  pub twice_from : (root : ℕ) → IsAlikeBelow heads (length heads) root → IsTwice heads root
  twice_from root a = record {
    lower = get_or heads a.k any;
    higher = get_or heads (a.k + 1) any;
    has = Contains-get_or heads a.k any (omega (arith, a.low));
    also = Contains-get_or heads (a.k + 1) any a.low;
    root_is = a.are.root_is any;
    less = before_root (get_or heads a.k any) (get_or heads (a.k + 1) any) (order.rising a.k (a.k + 1) any (omega arith) a.low) (a.are.key any) (a.are.number any);
    key = a.are.key any;
    number = a.are.number any;
  }

  -- one and the place behind it, where that is not behind another one like it
  pub at_or_before : (i k : ℕ) (a : Head) → i ≤ k → k < length heads → get_or heads i a ≡ a → (d : Head) → (a ≡ get_or heads k d) ⊎ IsBefore a (get_or heads k d)
  at_or_before i k a from inside is d = ⊎_elim
      (λ (less : i < k). inr (subst (λ (x : Head). IsBefore x (get_or heads k d)) (get_or_default heads i d a (omega (arith, less, inside)) ∙ is) (order.rising i k d less inside)))
      (λ (to : k ≤ i). inl (sym is ∙ (get_or_default heads i a d (omega (arith, from, inside)) ∙ ap (λ (n : ℕ). get_or heads n d) (omega (arith, from, to)))))
      (cases_lt i k)

  -- places past the row are none of it
  wide_alike : {root : ℕ} (place : ℕ) → length heads ≤ place → IsAlikeBelow heads (length heads) root → IsAlikeBelow heads place root
  wide_alike place past a = record { k = a.k; low = omega (arith, a.low, past); are = a.are }

  close_alike : {root : ℕ} (place : ℕ) → IsAlikeBelow heads place root → IsAlikeBelow heads (length heads) root
  close_alike place a = record { k = a.k; low = a.are.inside; are = a.are }

  -- between two heads that are alike each is like them
  module _ (a b : Head) (i k : ℕ) (from : i ≤ k) (is : get_or heads i a ≡ a) (inside : k + 1 < length heads) (also : get_or heads (k + 1) b ≡ b) (key : a.key ≡ b.key) (number : a.number ≡ b.number) (d : Head) where
    abbrev m : Head
    m = get_or heads k d

    last : get_or heads (k + 1) d ≡ b
    last = get_or_default heads (k + 1) d b inside ∙ also

    behind : IsBefore m b
    behind = subst (λ (x : Head). IsBefore m x) last (order.rising k (k + 1) d (omega arith) inside)

    ahead : (a ≡ m) ⊎ IsBefore a m
    ahead = at_or_before i k a from (omega (arith, inside)) is d

    least : a.key ≤ m.key
    least = ⊎_elim (λ same. omega (arith, ap (λ (x : Head). x.key) same)) (λ before. before_key a m before) ahead

    same_key : m.key ≡ b.key
    same_key = omega (arith, least, before_key m b behind, key)

    fewest : a.number ≤ m.number
    fewest = ⊎_elim (λ same. omega (arith, ap (λ (x : Head). x.number) same)) (λ before. before_number a m before (key ∙ sym same_key)) ahead

    pub between_key : m.key ≡ (get_or heads (k + 1) d).key
    between_key = same_key ∙ sym (ap (λ (x : Head). x.key) last)

    pub between_number : m.number ≡ (get_or heads (k + 1) d).number
    between_number = omega (arith, fewest, before_number m b behind same_key, number) ∙ sym (ap (λ (x : Head). x.number) last)

    pub between_root : (get_or heads (k + 1) d).root ≡ b.root
    between_root = ap (λ (x : Head). x.root) last

  near_alike : (a b : Head) (i k : ℕ) → i ≤ k → get_or heads i a ≡ a → k + 1 < length heads → get_or heads (k + 1) b ≡ b → a.key ≡ b.key → a.number ≡ b.number → IsAlikeBelow heads (length heads) b.root
  near_alike a b i k from is inside also key number = record {
    k = k;
    low = inside;
    are = record {
      inside = inside;
      key = between_key a b i k from is inside also key number;
      number = between_number a b i k from is inside also key number;
      root_is = between_root a b i k from is inside also key number;
    };
  }

  -- the lower root's head stands first
  lower_first : (a b : Head) (i j : ℕ) → i < length heads → get_or heads i a ≡ a → get_or heads j b ≡ b → a.root < b.root → a.key ≡ b.key → a.number ≡ b.number → i < j
  lower_first a b i j low is also less key number = ⊎_elim
      (λ (first : i < j). first)
      (λ (from : j ≤ i). ⊎_elim
      (λ (same : b ≡ get_or heads i a). absurd (omega (arith, less, ap (λ (x : Head). x.root) (same ∙ is))))
      (λ (before : IsBefore b (get_or heads i a)). absurd (omega (arith, less, before_root b a (subst (λ (x : Head). IsBefore b x) is before) (sym key) (sym number))))
      (at_or_before j i b from low also a))
      (cases_lt i j)

  alike_at : (a b : Head) (i j : ℕ) → i < j → get_or heads i a ≡ a → j < length heads → get_or heads j b ≡ b → a.key ≡ b.key → a.number ≡ b.number → IsAlikeBelow heads (length heads) b.root
  alike_at a b i zero first is inside also key number = absurd (omega (arith, first))
  alike_at a b i (suc k) first is inside also key number =
      let one : suc k ≡ k + 1 = omega arith in
      near_alike a b i k (omega (arith, first)) is (omega (arith, inside)) (subst (λ (n : ℕ). get_or heads n b ≡ b) one also) key number

  pub twice_to : (root : ℕ) → IsTwice heads root → IsAlikeBelow heads (length heads) root
  twice_to root t = subst (λ (n : ℕ). IsAlikeBelow heads (length heads) n) t.root_is
      (alike_at t.lower t.higher t.has.0 t.also.0 (lower_first t.lower t.higher t.has.0 t.also.0 t.has.1 t.has.2 t.also.2 t.less t.key t.number) t.has.2 t.also.1 t.also.2 t.key t.number)

  -- so the lowest of the ones is that of the others
  pub least_twice : (place : ℕ) (first : Option ℕ) → length heads ≤ place → IsLeastOf (IsAlikeBelow heads place) first → IsLeastOf (IsTwice heads) first
  least_twice place None past none = record { none = λ root t. none.none root (wide_alike place past (twice_to root t)) }
  least_twice place (Some root) past least = record {
    here = twice_from root (close_alike place least.here);
    least = λ other t. least.least other (wide_alike place past (twice_to other t));
  }
