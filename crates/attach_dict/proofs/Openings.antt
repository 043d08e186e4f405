-- What was read of all roots: the lowest one whose block is not fit, or the indexes of a dictionary.
use Rattle.std.proofs.Common.{◌≡◌, ◌⊎◌, ℕ, ◌<◌, ◌≤◌, List, length, Option, Some, None, inl, inr, refl, sym, ap, ◌∙◌, subst, arith, ⊎_elim}
use Rattle.std.specs.Prelude.{IsPermutation}
use Rattle.std.specs.Option.{option_or}
use Rattle.std.proofs.lemmas.List.Sorted.{Contains-permutation, IsPermutation-sym}
use Rattle.attach_dict.proofs.Common.{cases_lt, Contains, bounds_of, IsExactImage, words_of, ArenaState, IsReady, IsLeastOf, rooted, Keyed}
use Rattle.image_defects.specs.Least.{HasNone as HasNoNumber, IsLeast}
use Rattle.attach_dict.specs.declared.heads.Head.{Head}
use Rattle.attach_dict.specs.declared.index.DictIndex.{DictIndex}
use Rattle.attach_dict.specs.declared.progress.Progress.TheVariants as stages
use Rattle.attach_dict.specs.Dict.{stage, HasSome, HasNone, IsPair, IsFit, IsMisfit, IsNotDict, IsStaleRoot}
use Rattle.attach_dict.specs.Heads.{AreInOrder, IsAt, IsTwice, IsLast, IsPassed, keyed_of, IsLastBelow, IsPassedBelow, HasPlaces, AreTakenTo, KeepsRest}
use Rattle.attach_dict.specs.Reading.{HoldsPair, HoldsNoPair, AreHeads, ArePairs, IsScanned, IsScannedTo, IsStageTaken, IsIndexed}
use Rattle.attach_dict.specs.Roots.{Roots, IsIn, IsOut, HasMoreRoots}
use Rattle.attach_dict.specs.Stages.{Idle}
use Rattle.attach_dict.specs.View.{CountsFor, AreFreeRoots, AreNumbers, AreKeys, AreTables, AreStaleRoots}
use Rattle.attach_dict.specs.Whole.{IsWhole}
use Rattle.attach_dict.proofs.Answered.{stage_rooted}
use Rattle.attach_dict.proofs.Pairs.{some_of, IsSamePair, pair_once}
use Rattle.attach_dict.proofs.Counting.{AllFit}
use Rattle.attach_dict.proofs.Indexed.{dict_of}
use Rattle.attach_dict.proofs.Less.{none_not_some}
use Rattle.attach_dict.proofs.HeadOrder.{before_number, before_root}
use Rattle.attach_dict.proofs.Taken.{last_of, last_or_passed}

-- a row in another order has the same heads
pub heads_moved : (words : List ℕ) (end : ℕ) (heads sorted : List Head) → IsPermutation heads sorted → AreHeads words end heads → AreHeads words end sorted
heads_moved words end heads sorted moved were =
    let back : (h : Head) → Contains sorted h → Contains heads h = λ h has. Contains-permutation sorted heads h (IsPermutation-sym heads sorted moved) has in
    record {
      are = λ h has. were.are h (back h has);
      below = λ h has. were.below h (back h has);
      each = λ root key number value low pair. Contains-permutation heads sorted (record { key = key; number = number; root = root }) moved (were.each root key number value low pair);
    }

module _ (words : List ℕ) (end : ℕ) (heads : List Head) (are : AreHeads words end heads) (pairs : ArePairs words end) where
  pair_of : (h : Head) (has : Contains heads h) → IsPair words h.root h.key h.number (are.are h has).1.value
  pair_of h has = record { low = (are.are h has).0; has = (are.are h has).1.pair }

  -- a root that has the key and the number of a lower one is not fit
  pub misfit_twice : (root : ℕ) → IsTwice heads root → IsMisfit words root
  misfit_twice root t =
      let here : IsPair words t.higher.root t.higher.key t.higher.number (are.are t.higher t.also).1.value = pair_of t.higher t.also in
      let there : IsPair words t.lower.root t.lower.key t.lower.number (are.are t.lower t.has).1.value = pair_of t.lower t.has in
      subst (λ (r : ℕ). IsMisfit words r) t.root_is (record {
        low = here.low;
        some = some_of here;
        unfit = λ fit.
            let same : IsSamePair t.higher.key fit.key t.higher.number fit.number (are.are t.higher t.also).1.value fit.value =
            pair_once words t.higher.root t.higher.key fit.key t.higher.number fit.number (are.are t.higher t.also).1.value fit.value here.has fit.pair.has in
            fit.once t.lower.root (are.are t.lower t.has).1.value t.less
            (subst (λ (k : ℕ). IsPair words t.lower.root k fit.number (are.are t.lower t.has).1.value) (t.key ∙ same.key_is)
            (subst (λ (n : ℕ). IsPair words t.lower.root t.lower.key n (are.are t.lower t.has).1.value) (t.number ∙ same.number_is) there));
      })

  -- and each other one with a block is
  pub fit_once : (root : ℕ) → stage < root → root < end → HasSome words root → ¬ (IsTwice heads root) → IsFit words root
  fit_once root low high some not =
      let holds : HoldsPair words root = pairs root low high some in
      let pair : IsPair words root holds.key holds.number holds.value = record { low = low; has = holds.pair } in
      record {
        key = holds.key;
        number = holds.number;
        value = holds.value;
        pair = pair;
        once = λ lower v less is. not (record {
          lower = record { key = holds.key; number = holds.number; root = lower };
          higher = record { key = holds.key; number = holds.number; root = root };
          has = are.each lower holds.key holds.number v (omega (arith, less, high)) is;
          also = are.each root holds.key holds.number holds.value high pair;
          root_is = refl;
          less = less;
          key = refl;
          number = refl;
        });
      }

  -- so the lowest such root is the lowest that is not fit
  pub not_dict_twice : (root : ℕ) → IsLeast (IsTwice heads) root → IsNotDict words root
  not_dict_twice root t = record {
    here = misfit_twice root t.here;
    least = λ other misfit. ⊎_elim
        (λ (less : other < root).
        let high : root < end = subst (λ (r : ℕ). r < end) t.here.root_is (are.below t.here.higher t.here.also) in
        absurd (misfit.unfit (fit_once other misfit.low (omega (arith, less, high)) misfit.some (λ twice. omega (arith, less, t.least other twice)))))
        (λ (from : root ≤ other). from)
        (cases_lt other root);
  }

  pub not_dict_unfit : HasNoNumber (IsTwice heads) → stage < end → HoldsNoPair words end → IsNotDict words end
  not_dict_unfit none low holds = record {
    here = record { low = low; some = holds.some; unfit = λ fit. holds.none fit.key fit.number fit.value fit.pair.has };
    least = λ other misfit. ⊎_elim
        (λ (less : other < end). absurd (misfit.unfit (fit_once other misfit.low less misfit.some (none.none other))))
        (λ (from : end ≤ other). from)
        (cases_lt other end);
  }

-- as it was read, up to a root or to the end

-- where it ended
abbrev pub end_of : List ℕ → Option ℕ → ℕ
end_of words None = (bounds_of words).roots
end_of words (Some root) = root

pub scanned_of : (words : List ℕ) (heads : List Head) (index : DictIndex) (unfit : Option ℕ) → IsScannedTo words heads index unfit → IsScanned words (end_of words unfit) heads index
scanned_of words heads index None scanned = scanned
scanned_of words heads index (Some root) scanned = scanned.0

-- the first of two answers, if there is one
pub or_some : (a b : Option ℕ) (root : ℕ) → option_or a b ≡ Some root → (a ≡ Some root) ⊎ ((a ≡ None) × (b ≡ Some root))
or_some None b root is = inr (refl, is)
or_some (Some x) b root is = inl is

pub or_none : (a b : Option ℕ) → option_or a b ≡ None → (a ≡ None) × (b ≡ None)
or_none None b is = (refl, is)
or_none (Some x) b is = absurd (cc is)

-- the root that is answered is the lowest that is not fit
pub fault_is : (words : List ℕ) (heads sorted : List Head) (index : DictIndex) (unfit twice : Option ℕ) (root : ℕ) → IsScannedTo words heads index unfit → IsPermutation heads sorted → IsLeastOf (IsTwice sorted) twice → (twice ≡ Some root) ⊎ ((twice ≡ None) × (unfit ≡ Some root)) → IsNotDict words root
fault_is words heads sorted index unfit twice root scanned moved least (inl found) =
    let s : IsScanned words (end_of words unfit) heads index = scanned_of words heads index unfit scanned in
    not_dict_twice words (end_of words unfit) sorted (heads_moved words (end_of words unfit) heads sorted moved s.heads_are) s.pairs root (subst (λ (o : Option ℕ). IsLeastOf (IsTwice sorted) o) found least)
fault_is words heads sorted index unfit twice root scanned moved least (inr (none, is)) =
    let s : IsScanned words root heads index × (stage < root) × HoldsNoPair words root = subst (λ (o : Option ℕ). IsScannedTo words heads index o) is scanned in
    not_dict_unfit words root sorted (heads_moved words root heads sorted moved s.0.heads_are) s.0.pairs (subst (λ (o : Option ℕ). IsLeastOf (IsTwice sorted) o) none least) s.1 s.2

-- where there is none, all were read
pub read_all : (words : List ℕ) (heads sorted : List Head) (index : DictIndex) (unfit twice : Option ℕ) → IsScannedTo words heads index unfit → IsLeastOf (IsTwice sorted) twice → option_or twice unfit ≡ None → IsScanned words (bounds_of words).roots heads index × HasNoNumber (IsTwice sorted)
read_all words heads sorted index unfit twice scanned least none =
    let both : (twice ≡ None) × (unfit ≡ None) = or_none twice unfit none in (
      subst (λ (o : Option ℕ). IsScannedTo words heads index o) both.1 scanned,
      subst (λ (o : Option ℕ). IsLeastOf (IsTwice sorted) o) both.0 least,
    )

-- and the tables have a place for each root
pub places_of : (words : List ℕ) (heads sorted : List Head) (index : DictIndex) → IsPermutation heads sorted → IsScanned words (bounds_of words).roots heads index → HasPlaces sorted index
places_of words heads sorted index moved s =
    let are : AreHeads words (bounds_of words).roots sorted = heads_moved words (bounds_of words).roots heads sorted moved s.heads_are in
    record {
      keys = λ h has. subst (λ (n : ℕ). h.root < n) (sym s.keys.roots_are) (are.below h has);
      stale = λ h has. subst (λ (n : ℕ). h.root < n) (sym s.stale.below_is) (are.below h has);
    }

-- every block was read, and no root has the key and the number of a lower one

module _ (words : List ℕ) (exact : IsExactImage words) (heads : List Head) (are : AreHeads words (bounds_of words).roots heads) (pairs : ArePairs words (bounds_of words).roots) (none : HasNoNumber (IsTwice heads)) (order : AreInOrder heads) where
  pub all_fit : AllFit words
  all_fit root low some = fit_once words (bounds_of words).roots heads are pairs root low (rooted words root some.range exact some.named) some (none.none root)

  -- each pair has its head
  head_of : (root key number : ℕ) (value : List ℕ) → IsPair words root key number value → Contains heads (record { key = key; number = number; root = root })
  head_of root key number value pair = are.each root key number value (rooted words root pair.has.range exact pair.has.named) pair

  -- the last head of a key is that of the block that counts for it
  last_counts : (h : Head) → Contains heads h → IsLast heads h → CountsFor words (keyed_of h)
  last_counts h has last = record {
    value = (are.are h has).1.value;
    counts = record {
      number = h.number;
      pair = pair_of words (bounds_of words).roots heads are pairs h has;
      greatest = λ other n v pair. ⊎_elim
          (λ (more : h.number < n). absurd (last (record { key = h.key; number = n; root = other }) (head_of other h.key n v pair) refl (inr (refl, inl more))))
          (λ (most : n ≤ h.number). most)
          (cases_lt h.number n);
    };
  }

  -- and one that is passed is stale
  passed_stale : (h : Head) → Contains heads h → IsPassed heads h → IsStaleRoot words h.root
  passed_stale h has p =
      let here = pair_of words (bounds_of words).roots heads are pairs h has in
      let there = pair_of words (bounds_of words).roots heads are pairs p.other p.has in
      record {
        low = here.low;
        some = some_of here;
        less = λ key v counts.
            let same : IsSamePair key h.key counts.number h.number v (are.are h has).1.value = pair_once words h.root key h.key counts.number h.number v (are.are h has).1.value counts.pair.has here.has in
            let most : p.other.number ≤ counts.number = counts.greatest p.other.root p.other.number (are.are p.other p.has).1.value (subst (λ (k : ℕ). IsPair words p.other.root k p.other.number (are.are p.other p.has).1.value) (p.key ∙ sym same.key_is) there) in
            let number : h.number ≡ p.other.number = omega (arith, most, same.number_is, before_number h p.other p.before (sym p.key)) in
            none.none p.other.root (record { lower = h; higher = p.other; has = has; also = p.has; root_is = refl; less = before_root h p.other p.before (sym p.key) number; key = sym p.key; number = number });
      }

  -- the map of the last heads is that of the image
  module _ (old index : DictIndex) (taken : AreTakenTo heads (length heads) index) (rest : KeepsRest old index) (roots : old.keys.roots ≡ (bounds_of words).roots) (below : old.stale.below ≡ (bounds_of words).roots) where
    pub keys_taken : AreKeys words index.keys
    keys_taken = record {
      sound = taken.sound;
      roots = rest.roots ∙ roots;
      are = λ r is.
          let l : IsLastBelow heads (length heads) r = taken.keys_are r is in
          subst (λ (x : Keyed). CountsFor words x) (sym l.is) (last_counts l.h (l.at, l.there.inside, l.there.is) l.last);
      each = λ root key number value pair.
          let l = last_of heads order (record { key = key; number = number; root = root }) (head_of root key number value pair) in
          record { row = keyed_of l.1; is = taken.keys_each (keyed_of l.1) (record { at = l.0; h = l.1; low = l.2.inside; there = l.2; last = l.3; is = refl }); key_is = l.4 };
    }

    stale_to : (root : ℕ) → IsIn index.stale root → IsStaleRoot words root
    stale_to root is =
        let p : IsPassedBelow heads (length heads) root = taken.stale_are root is in
        subst (λ (r : ℕ). IsStaleRoot words r) (sym p.is) (passed_stale p.h (p.at, p.there.inside, p.there.is) p.passed)

    stale_from : (root : ℕ) → IsStaleRoot words root → IsIn index.stale root
    stale_from root s =
        let f : IsFit words root = all_fit root s.low s.some in
        let h : Head = record { key = f.key; number = f.number; root = root } in
        let has : Contains heads h = head_of root f.key f.number f.value f.pair in
        let at : IsAt heads has.0 h = record { inside = has.1; is = has.2 } in
        ⊎_elim
        (λ (last : IsLast heads h). let c : CountsFor words (keyed_of h) = last_counts h has last in absurd (s.less f.key c.value c.counts))
        (λ (passed : IsPassed heads h). taken.stale_each root (record { at = has.0; h = h; low = has.1; there = at; passed = passed; is = refl }))
        (last_or_passed heads order has.0 h at)

    -- the stage is none of them
    pub stage_out : IsOut index.stale stage
    stage_out = record { none = λ is. let s = stale_to stage is in omega (arith, s.low) }

    stale_with : (stale : Roots) → HasSome words stage → HasMoreRoots index.stale stage stale → AreStaleRoots words Idle stale
    stale_with stale some more = record {
      below = more.below ∙ (rest.below ∙ below);
      are = λ root is. ⊎_elim (λ (had : IsIn index.stale root). inl (stale_to root had)) (λ (same : root ≡ stage). inr (same, some)) (more.each root is);
      each = λ root so. ⊎_elim (λ s. more.kept root (stale_from root s)) (λ s. subst (λ (r : ℕ). IsIn stale r) (sym s.0) more.here) so;
    }

    stale_without : HasNone words stage → AreStaleRoots words Idle index.stale
    stale_without empty = record {
      below = rest.below ∙ below;
      are = λ root is. inl (stale_to root is);
      each = λ root so. ⊎_elim (λ s. stale_from root s) (λ s. absurd (none_not_some empty s.1)) so;
    }

    -- so the indexes are those of the image
    pub indexed_by : (new : DictIndex) → IsStageTaken words index new → AreNumbers words (bounds_of words).roots old.numbers → AreFreeRoots words (bounds_of words).roots old.free → length old.block.items ≡ 512 → IsIndexed words new
    indexed_by new staged numbers free wide =
        let tables : AreTables words index.keys index.numbers index.free = record {
          keys_are = keys_taken;
          numbers_are = subst (λ (ns : List ℕ). AreNumbers words (bounds_of words).roots ns) (sym rest.numbers) numbers;
          free_are = subst (λ (f : Roots). AreFreeRoots words (bounds_of words).roots f) (sym rest.free) free;
        } in
        let room : length index.block.items ≡ 512 = ap (λ b. length b.items) rest.block ∙ wide in
        ⊎_elim
        (λ (some : HasSome words stage × HasMoreRoots index.stale stage new.stale × (new ≡ record { keys = index.keys; numbers = index.numbers; free = index.free; stale = new.stale; block = index.block })).
        subst (λ (i : DictIndex). IsIndexed words i) (sym some.2) (record { indexes = record { tables = tables; stale_roots = stale_with new.stale some.0 some.1; wide = room }; fit = all_fit }))
        (λ (empty : HasNone words stage × (new ≡ index)).
        subst (λ (i : DictIndex). IsIndexed words i) (sym empty.1) (record { indexes = record { tables = tables; stale_roots = stale_without empty.0; wide = room }; fit = all_fit }))
        staged

-- as the call has it
module _ (words : List ℕ) (exact : IsExactImage words) (heads sorted : List Head) (old index : DictIndex) (moved : IsPermutation heads sorted) (order : AreInOrder sorted) (read : IsScanned words (bounds_of words).roots heads old) (none : HasNoNumber (IsTwice sorted)) (taken : AreTakenTo sorted (length sorted) index) (rest : KeepsRest old index) where
  abbrev are : AreHeads words (bounds_of words).roots sorted
  are = heads_moved words (bounds_of words).roots heads sorted moved read.heads_are

  pub stage_free : IsOut index.stale stage
  stage_free = stage_out words exact sorted are read.pairs none order old index taken rest read.keys.roots_are read.stale.below_is

  pub stage_low : stage < index.stale.below
  stage_low = subst (λ (n : ℕ). stage < n) (sym (rest.below ∙ read.stale.below_is)) (stage_rooted words)

  pub read_indexed : (new : DictIndex) → IsStageTaken words index new → IsIndexed words new
  read_indexed new staged = indexed_by words exact sorted are read.pairs none order old index taken rest read.keys.roots_are read.stale.below_is new staged read.numbers read.free read.wide

-- a dictionary over an arena that has one
pub opened_whole : (arena : ArenaState) (index : DictIndex) → IsReady arena.device → IsExactImage (words_of arena.device) → IsIndexed (words_of arena.device) index → IsWhole arena index 0 stages.Idle
opened_whole arena index ready exact indexed = record {
  kept = record { ready = ready; exact = exact; dict = dict_of (words_of arena.device) exact index.keys indexed.indexes.tables.keys_are indexed.fit; at_stage = tt };
  indexes = indexed.indexes;
}
