-- The dictionary of an image in which a root has a pair anew, with a number above those of all others.
use Rattle.std.proofs.Common.{◌≡◌, ◌≢◌, ◌⊎◌, ℕ, ◌+◌, ◌<◌, ◌≤◌, List, set, get_or, Option, Some, None, inl, inr, sym, ap, ◌∙◌, subst, arith, ⊎_elim}
use Rattle.attach_dict.proofs.Common.{cases_eq, length-set, get_or-set_same, get_or-set_other, bounds_of, Keyed, KeyRoots, IsKeyed, IsKeyMap, HasMore, HasReplaced}
use Rattle.attach_dict.specs.Dict.{Pair, HasSome, HasNone, HasPair, IsPair, Counts, IsFit, IsValueOf, value_of, IsDict, IsStaleRoot, AreNumbersUpTo, Puts}
use Rattle.attach_dict.specs.Roots.{Roots, IsIn, HasFewerRoots}
use Rattle.attach_dict.specs.View.{CountsFor, HasKey, IsNumbered, AreFreeRoots, AreNumbers, AreKeys}
use Rattle.attach_dict.proofs.Pairs.{some_of, IsSamePair, pair_once}
use Rattle.attach_dict.proofs.Kept.{KeepsRoots, keeps_back, some_to, none_to, pair_to}
use Rattle.attach_dict.proofs.Counting.{AllFit, value_is, counts_or_stale, other_stale}
use Rattle.attach_dict.proofs.Less.{none_not_some}

-- a key has a root anew, whether it had one or not, and the others are as they were
pub record IsKeyedAnew (old : KeyRoots) (more : Keyed) (new : KeyRoots) : Type 0 where
  pub roots : new.roots ≡ old.roots
  pub here : IsKeyed new more
  pub kept : (r : Keyed) → IsKeyed old r → r.key ≢ more.key → IsKeyed new r
  pub each : (r : Keyed) → IsKeyed new r → (IsKeyed old r × (r.key ≢ more.key)) ⊎ (r ≡ more)
  pub sound : IsKeyMap new

pub anew_more : {old new : KeyRoots} {more : Keyed} → HasMore old more new → IsKeyedAnew old more new
anew_more h = record {
  roots = h.roots;
  here = h.here;
  kept = λ r is apart. h.kept r is;
  each = λ r is. ⊎_elim (λ was. inl (was, h.lacked.none r was)) (λ same. inr same) (h.each r is);
  sound = h.sound;
}

pub anew_replaced : {old new : KeyRoots} {was more : Keyed} → HasReplaced old was more new → IsKeyedAnew old more new
anew_replaced h = record { roots = h.roots; here = h.here; kept = h.kept; each = h.each; sound = h.sound }

module _ {old new : List ℕ} {come key number : ℕ} {value : List ℕ} (keeps : KeepsRoots old new come) (none : HasNone old come) (pair : IsPair new come key number value) (above : (root k n : ℕ) (v : List ℕ) → IsPair old root k n v → n < number) where
  -- a pair that was there is another root's
  not_come : {root k n : ℕ} {v : List ℕ} → IsPair old root k n v → root ≢ come
  not_come is same = none_not_some none (subst (λ (r : ℕ). HasSome old r) same (some_of is))

  pub pair_stays : {root k n : ℕ} {v : List ℕ} → IsPair old root k n v → IsPair new root k n v
  pair_stays is = pair_to keeps (not_come is) is

  -- a pair is the new one, or was there
  pub new_or_old : (root k n : ℕ) (v : List ℕ) → IsPair new root k n v → ((root ≡ come) × IsSamePair k key n number v value) ⊎ IsPair old root k n v
  new_or_old root k n v is = ⊎_elim
      (λ (same : root ≡ come). inl (same, pair_once new come k key n number v value (subst (λ (r : ℕ). HasPair new r k n v) same is.has) pair.has))
      (λ (apart : root ≢ come). inr (pair_to (keeps_back keeps) apart is))
      (cases_eq root come)

  -- none has a greater number
  most : (root k n : ℕ) (v : List ℕ) → IsPair new root k n v → n ≤ number
  most root k n v is = ⊎_elim (λ new_one. omega (arith, new_one.1.number_is)) (λ was. omega (arith, above root k n v was)) (new_or_old root k n v is)

  -- so the numbers rise by one at most where the new one does
  pub numbers_more : (n : ℕ) → AreNumbersUpTo old n → number ≤ n + 1 → AreNumbersUpTo new (n + 1)
  numbers_more n up less = record { each = λ root k m v is. omega (arith, most root k m v is, less) }

  pub counts_new : Counts new come key value
  counts_new = record { number = number; pair = pair; greatest = λ other n v is. most other key n v is }

  once_new : (lower : ℕ) (v : List ℕ) → lower < come → ¬ (IsPair new lower key number v)
  once_new lower v less is = ⊎_elim (λ new_one. omega (arith, less, new_one.0)) (λ was. omega (arith, above lower key number v was)) (new_or_old lower key number v is)

  once_old : (root k n : ℕ) (v : List ℕ) → IsPair old root k n v → (lower : ℕ) (w : List ℕ) → ¬ (IsPair old lower k n w) → ¬ (IsPair new lower k n w)
  once_old root k n v here lower w not is = ⊎_elim (λ new_one. omega (arith, above root k n v here, new_one.1.number_is)) (λ was. not was) (new_or_old lower k n w is)

  pub fit_more : AllFit old → AllFit new
  fit_more fit root low some = ⊎_elim
      (λ (same : root ≡ come). subst (λ (r : ℕ). IsFit new r) (sym same) (record { key = key; number = number; value = value; pair = pair; once = once_new }))
      (λ (apart : root ≢ come).
      let f = fit root low (some_to (keeps_back keeps) low apart some) in
      record { key = f.key; number = f.number; value = f.value; pair = pair_stays f.pair; once = λ lower w less. once_old root f.key f.number f.value f.pair lower w (f.once lower w less) })
      (cases_eq root come)

  -- another key's root counts for it still
  counts_stays : (root k : ℕ) (v : List ℕ) → k ≢ key → Counts old root k v → Counts new root k v
  counts_stays root k v differs counts = record {
    number = counts.number;
    pair = pair_stays counts.pair;
    greatest = λ other n w found. ⊎_elim (λ new_one. absurd (differs new_one.1.key_is)) (λ had. counts.greatest other n w had) (new_or_old other k n w found);
  }

  -- the numbers with the root's are those of the image
  pub numbers_come : (end : ℕ) (numbers : List ℕ) → bounds_of new ≡ bounds_of old → come < (bounds_of old).roots → AreNumbers old end numbers → AreNumbers new end (set numbers come number)
  numbers_come end numbers bounds low were =
      let here : get_or (set numbers come number) come 0 ≡ number = get_or-set_same numbers come number 0 (subst (λ (n : ℕ). come < n) (sym were.size) low) in
      record {
        size = length-set numbers come number ∙ (were.size ∙ ap (λ b. b.roots) (sym bounds));
        each = λ root k n v below is. ⊎_elim
            (λ new_one. ap (λ (r : ℕ). get_or (set numbers come number) r 0) new_one.0 ∙ (here ∙ sym new_one.1.number_is))
            (λ had. get_or-set_other numbers come root number 0 (not_come had) ∙ were.each root k n v below had)
            (new_or_old root k n v is);
        are = λ root some. ⊎_elim
            (λ (same : root ≡ come).
            let it : get_or (set numbers come number) root 0 ≡ number = ap (λ (r : ℕ). get_or (set numbers come number) r 0) same ∙ here in
            subst (λ (n : ℕ). IsNumbered new root n) (sym it) (subst (λ (r : ℕ). IsNumbered new r number) (sym same) (record { key = key; value = value; pair = pair })))
            (λ (apart : root ≢ come).
            let other : get_or (set numbers come number) root 0 ≡ get_or numbers root 0 = get_or-set_other numbers come root number 0 apart in
            let n : IsNumbered old root (get_or numbers root 0) = were.are root (λ zero. some (other ∙ zero)) in
            subst (λ (k : ℕ). IsNumbered new root k) (sym other) (record { key = n.key; value = n.value; pair = pair_stays n.pair }))
            (cases_eq root come);
      }

  -- the free roots without it too
  pub free_come : (end : ℕ) (free less : Roots) → bounds_of new ≡ bounds_of old → AreFreeRoots old end free → HasFewerRoots free come less → AreFreeRoots new end less
  free_come end free less bounds were frees = record {
    below = frees.below ∙ (were.below ∙ ap (λ b. b.roots) (sym bounds));
    are = λ root is.
        let v = were.are root (frees.each root is) in
        let apart : root ≢ come = λ same. frees.out.none (subst (λ (r : ℕ). IsIn less r) same is) in
        record { low = v.low; high = v.high; none = none_to keeps v.low apart v.none };
    each = λ root vacant.
        let apart : root ≢ come = λ same. none_not_some (subst (λ (r : ℕ). HasNone new r) same vacant.none) (some_of pair) in
        frees.kept root (were.each root (record { low = vacant.low; high = vacant.high; none = none_to (keeps_back keeps) vacant.low apart vacant.none })) apart;
  }

  -- and the map in which the key has the root
  pub keys_come : (keys after : KeyRoots) → bounds_of new ≡ bounds_of old → AreKeys old keys → IsKeyedAnew keys (record { key = key; root = come }) after → AreKeys new after
  keys_come keys after bounds were h = record {
    sound = h.sound;
    roots = h.roots ∙ (were.roots ∙ ap (λ b. b.roots) (sym bounds));
    are = λ r is. ⊎_elim
        (λ (had : IsKeyed keys r × (r.key ≢ key)). let c : CountsFor old r = were.are r had.0 in record { value = c.value; counts = counts_stays r.root r.key c.value had.1 c.counts })
        (λ (same : r ≡ record { key = key; root = come }). subst (λ (x : Keyed). CountsFor new x) (sym same) (record { value = value; counts = counts_new }))
        (h.each r is);
    each = λ root k n v is. ⊎_elim
        (λ new_one. record { row = record { key = key; root = come }; is = h.here; key_is = sym new_one.1.key_is })
        (λ had.
        let has : HasKey keys k = were.each root k n v had in
        ⊎_elim
        (λ (same : has.row.key ≡ key). record { row = record { key = key; root = come }; is = h.here; key_is = sym same ∙ has.key_is })
        (λ (apart : has.row.key ≢ key). record { row = has.row; is = h.kept has.row has.is apart; key_is = has.key_is })
        (cases_eq has.row.key key))
        (new_or_old root k n v is);
  }

  module _ (pairs more : List Pair) (was : IsDict old pairs) (is : IsDict new more) where
    value_stays : (other : ℕ) (found : Option (List ℕ)) → other ≢ key → IsValueOf old other found → IsValueOf new other found
    value_stays other None differs lacks = λ root n v found. ⊎_elim (λ new_one. absurd (differs new_one.1.key_is)) (λ had. lacks root n v had) (new_or_old root other n v found)
    value_stays other (Some v) differs counts = (counts.0, counts_stays counts.0 other v differs counts.1)

    -- the map has the key with the value
    pub puts_some : Puts pairs key (Some value) more
    puts_some = record {
      here = value_is new more is key (Some value) (come, counts_new);
      others = λ other differs. value_is new more is other (value_of pairs other) (value_stays other (value_of pairs other) differs (was.each other));
    }

    -- where none was stale, a stale root is one that counted for the key
    pub stale_counted : ((root : ℕ) → ¬ (IsStaleRoot old root)) → (root : ℕ) → IsStaleRoot new root → (v : List ℕ) × Counts old root key v
    stale_counted tidy root stale =
        let apart : root ≢ come = λ same. stale.less key value (subst (λ (r : ℕ). Counts new r key value) (sym same) counts_new) in
        let fit = was.fit root stale.low (some_to (keeps_back keeps) stale.low apart stale.some) in
        ⊎_elim
        (λ (counts : Counts old root fit.key fit.value). ⊎_elim
        (λ (same : fit.key ≡ key). (fit.value, subst (λ (k : ℕ). Counts old root k fit.value) same counts))
        (λ (differs : fit.key ≢ key). absurd (stale.less fit.key fit.value (counts_stays root fit.key fit.value differs counts)))
        (cases_eq fit.key key))
        (λ stale_was. absurd (tidy root stale_was))
        (counts_or_stale old pairs was root fit.key fit.number fit.value fit.pair)

    -- and that one is stale
    pub counted_stale : (root : ℕ) (v : List ℕ) → Counts old root key v → IsStaleRoot new root
    counted_stale root v counts = other_stale new more is root come key counts.number v value (pair_stays counts.pair) counts_new (not_come counts.pair)
