-- The dictionary of an image in which the block of a root has gone.
use Rattle.std.proofs.Common.{◌≡◌, ◌≢◌, ℕ, ◌<◌, List, set, get_or, Option, Some, None, sym, ap, ◌∙◌, subst, ⊎_elim}
use Rattle.attach_dict.proofs.Common.{cases_eq, length-set, get_or-set_same, get_or-set_other, tables_of, heap, bounds_of, Keyed, KeyRoots, HasLess}
use Rattle.attach_dict.specs.Dict.{Pair, stage, HasSome, HasNone, HasPair, IsPair, Counts, IsValueOf, value_of, IsDict, IsStaleRoot, AreNumbersUpTo, Puts}
use Rattle.attach_dict.specs.Roots.{Roots, IsIn, HasMoreRoots}
use Rattle.attach_dict.specs.View.{CountsFor, HasKey, IsNumbered, IsVacant, AreFreeRoots, AreNumbers, AreKeys}
use Rattle.attach_dict.proofs.Pairs.{some_of, pair_once}
use Rattle.attach_dict.proofs.Kept.{KeepsRoots, keeps_back, some_to, none_to, pair_to}
use Rattle.attach_dict.proofs.Counting.{AllFit, counts_once, value_is, value_counts, counts_or_stale}

-- a root names a block or none
pub none_not_some : {words : List ℕ} {root : ℕ} → HasNone words root → HasSome words root → ⊥
none_not_some none some = let named = some.named in cc (none, named)

module _ {old new : List ℕ} {gone : ℕ} (keeps : KeepsRoots old new gone) (none : HasNone new gone) where
  not_gone : {root : ℕ} → HasSome new root → root ≢ gone
  not_gone {root} some is = none_not_some none (subst (λ (r : ℕ). HasSome new r) is some)

  -- a pair that is left was there
  pub pair_was : {root key number : ℕ} {value : List ℕ} → IsPair new root key number value → IsPair old root key number value
  pair_was pair = pair_to (keeps_back keeps) (not_gone (some_of pair)) pair

  -- no number came
  pub numbers_less : (n : ℕ) → AreNumbersUpTo old n → AreNumbersUpTo new n
  numbers_less n up = record { each = λ root key number value is. up.each root key number value (pair_was is) }

  pub fit_less : AllFit old → AllFit new
  fit_less fit root low some =
      let f = fit root low (some_to (keeps_back keeps) low (not_gone some) some) in
      record { key = f.key; number = f.number; value = f.value; pair = pair_to keeps (not_gone some) f.pair; once = λ lower v less is. f.once lower v less (pair_was is) }

  pub counts_left : {root key : ℕ} {value : List ℕ} → root ≢ gone → Counts old root key value → Counts new root key value
  counts_left apart was = record { number = was.number; pair = pair_to keeps apart was.pair; greatest = λ other n v is. was.greatest other n v (pair_was is) }

  -- what counted for a key counts still, where it was not that block
  pub value_left : (key : ℕ) (value : Option (List ℕ)) → ((root : ℕ) (v : List ℕ) → Counts old root key v → root ≢ gone) → IsValueOf old key value → IsValueOf new key value
  value_left key None apart was = λ root number v is. was root number v (pair_was is)
  value_left key (Some v) apart was = (was.0, counts_left (apart was.0 v was.1) was.1)

  -- another image without it has the same blocks
  pub both_less : {image : List ℕ} → KeepsRoots old image gone → HasNone image gone → KeepsRoots new image stage
  both_less {image} also none_also = record {
    blocks = λ root low apart. ⊎_elim
        (λ (is : root ≡ gone). ap (heap (tables_of image)) is ∙ (none_also ∙ (sym none ∙ ap (heap (tables_of new)) (sym is))))
        (λ (differs : root ≢ gone). also.blocks root low differs ∙ sym (keeps.blocks root low differs))
        (cases_eq root gone);
    words = λ root k range low apart named word.
        let differs : root ≢ gone = not_gone (record { range = range; named = named }) in
        let was = sym (keeps.blocks root low differs) ∙ named in
        also.words root k range low differs was word ∙ sym (keeps.words root k range low differs was word);
  }

  -- the numbers without the root's are those of the image
  pub numbers_gone : (end : ℕ) (numbers : List ℕ) → bounds_of new ≡ bounds_of old → gone < (bounds_of old).roots → AreNumbers old end numbers → AreNumbers new end (set numbers gone 0)
  numbers_gone end numbers bounds low were = record {
    size = length-set numbers gone 0 ∙ (were.size ∙ ap (λ b. b.roots) (sym bounds));
    each = λ root key number value below pair. get_or-set_other numbers gone root 0 0 (not_gone (some_of pair)) ∙ were.each root key number value below (pair_was pair);
    are = λ root some. ⊎_elim
        (λ (same : root ≡ gone). absurd (some (ap (λ (r : ℕ). get_or (set numbers gone 0) r 0) same ∙ get_or-set_same numbers gone 0 0 (subst (λ (n : ℕ). gone < n) (sym were.size) low))))
        (λ (apart : root ≢ gone).
        let other : get_or (set numbers gone 0) root 0 ≡ get_or numbers root 0 = get_or-set_other numbers gone root 0 0 apart in
        let n : IsNumbered old root (get_or numbers root 0) = were.are root (λ none. some (other ∙ none)) in
        subst (λ (k : ℕ). IsNumbered new root k) (sym other) (record { key = n.key; value = n.value; pair = pair_to keeps apart n.pair }))
        (cases_eq root gone);
  }

  -- the free roots with it too
  pub free_gone : (end : ℕ) (free more : Roots) → bounds_of new ≡ bounds_of old → stage < gone → gone < end → AreFreeRoots old end free → HasMoreRoots free gone more → AreFreeRoots new end more
  free_gone end free more bounds low high were frees = record {
    below = frees.below ∙ (were.below ∙ ap (λ b. b.roots) (sym bounds));
    are = λ root is. ⊎_elim
        (λ (same : root ≡ gone). subst (λ (r : ℕ). IsVacant new end r) (sym same) (record { low = low; high = high; none = none }))
        (λ (apart : root ≢ gone). ⊎_elim
        (λ (was : IsIn free root). let v = were.are root was in record { low = v.low; high = v.high; none = none_to keeps v.low apart v.none })
        (λ (same : root ≡ gone). absurd (apart same))
        (frees.each root is))
        (cases_eq root gone);
    each = λ root vacant. ⊎_elim
        (λ (same : root ≡ gone). subst (λ (r : ℕ). IsIn more r) (sym same) frees.here)
        (λ (apart : root ≢ gone). frees.kept root (were.each root (record { low = vacant.low; high = vacant.high; none = none_to (keeps_back keeps) vacant.low apart vacant.none })))
        (cases_eq root gone);
  }

  -- and a key's root counts for it still where it is another one
  count_left : (r : Keyed) → r.root ≢ gone → CountsFor old r → CountsFor new r
  count_left r apart c = record { value = c.value; counts = counts_left apart c.counts }

  -- so the map is that of the image where the block did not count
  pub keys_gone : (keys : KeyRoots) → bounds_of new ≡ bounds_of old → IsStaleRoot old gone → AreKeys old keys → AreKeys new keys
  keys_gone keys bounds stale were = record {
    sound = were.sound;
    roots = were.roots ∙ ap (λ b. b.roots) (sym bounds);
    are = λ r is.
        let c : CountsFor old r = were.are r is in
        count_left r (λ same. stale.less r.key c.value (subst (λ (n : ℕ). Counts old n r.key c.value) same c.counts)) c;
    each = λ root key number value pair. were.each root key number value (pair_was pair);
  }

  -- where the block counted for a key and none was stale
  module _ (pairs : List Pair) (was : IsDict old pairs) (key : ℕ) (value : List ℕ) (counted : Counts old gone key value) (tidy : (root : ℕ) → ¬ (IsStaleRoot old root)) where
    counts_here : (root number : ℕ) (v : List ℕ) → IsPair old root key number v → Counts old root key v
    counts_here root number v pair = ⊎_elim (λ counts. counts) (λ stale. absurd (tidy root stale)) (counts_or_stale old pairs was root key number v pair)

    none_left : IsValueOf new key None
    none_left root number v pair = not_gone (some_of pair) (counts_once old was.fit root gone key v value (counts_here root number v (pair_was pair)) counted).0

    -- the map without the key is that of the image
    pub keys_less : (keys less : KeyRoots) → bounds_of new ≡ bounds_of old → AreKeys old keys → HasLess keys (record { key = key; root = gone }) less → AreKeys new less
    keys_less keys less bounds were h = record {
      sound = h.sound;
      roots = h.roots ∙ (were.roots ∙ ap (λ b. b.roots) (sym bounds));
      are = λ r is. count_left r (h.root.none r is) (were.are r (h.each r is));
      each = λ root k number v pair.
          let has : HasKey keys k = were.each root k number v (pair_was pair) in
          ⊎_elim
          (λ (same : has.row.key ≡ key). absurd (none_left root number v (subst (λ (n : ℕ). IsPair new root n number v) (sym has.key_is ∙ same) pair)))
          (λ (apart : has.row.key ≢ key). record { row = has.row; is = h.kept has.row has.is apart; key_is = has.key_is })
          (cases_eq has.row.key key);
    }

  module _ (pairs left : List Pair) (was : IsDict old pairs) (is : IsDict new left) where
    -- where the block counted for a key and none was stale, the map lost the key
    module _ (key : ℕ) (value : List ℕ) (counted : Counts old gone key value) (tidy : (root : ℕ) → ¬ (IsStaleRoot old root)) where
      pub puts_none : Puts pairs key None left
      puts_none = record {
        here = value_is new left is key None (none_left pairs was key value counted tidy);
        others = λ other differs. value_is new left is other (value_of pairs other) (value_left other (value_of pairs other)
            (λ root v counts same. differs (pair_once old gone other key _ counted.number v value (subst (λ (r : ℕ). HasPair old r other counts.number v) same counts.pair.has) counted.pair.has).key_is)
            (was.each other));
      }

      -- and none is stale
      pub still_tidy : (root : ℕ) → ¬ (IsStaleRoot new root)
      still_tidy root stale =
          let fit = was.fit root stale.low (some_to (keeps_back keeps) stale.low (not_gone stale.some) stale.some) in
          ⊎_elim
          (λ counts. stale.less fit.key fit.value (counts_left (not_gone stale.some) counts))
          (λ stale_was. tidy root stale_was)
          (counts_or_stale old pairs was root fit.key fit.number fit.value fit.pair)

    -- where it was stale the map stays
    module _ (stale : IsStaleRoot old gone) where
      counts_apart : (key root : ℕ) (v : List ℕ) → Counts old root key v → root ≢ gone
      counts_apart key root v counts same = stale.less key v (subst (λ (r : ℕ). Counts old r key v) same counts)

      pub dict_less : IsDict new pairs
      dict_less = record { fit = fit_less was.fit; rising = was.rising; each = λ key. value_left key (value_of pairs key) (counts_apart key) (was.each key) }

      -- the other stale roots are so still, and no more are
      pub stale_left : (root : ℕ) → root ≢ gone → IsStaleRoot old root → IsStaleRoot new root
      stale_left root apart s = record {
        low = s.low;
        some = some_to keeps s.low apart s.some;
        less = λ key v counts.
            let c : IsValueOf old key (Some v) = value_counts old pairs was key (Some v) (value_is new pairs dict_less key (Some v) (root, counts)) in
            let same : root ≡ c.0 = (counts_once new dict_less.fit root c.0 key v v counts (counts_left (counts_apart key c.0 v c.1) c.1)).0 in
            s.less key v (subst (λ (r : ℕ). Counts old r key v) (sym same) c.1);
      }

      pub stale_was : (root : ℕ) → IsStaleRoot new root → IsStaleRoot old root
      stale_was root s = record {
        low = s.low;
        some = some_to (keeps_back keeps) s.low (not_gone s.some) s.some;
        less = λ key v counts. s.less key v (counts_left (not_gone s.some) counts);
      }
