-- The blocks of an arena's roots while they are read, one by one.
use Rattle.std.proofs.Common.{◌≡◌, ◌≢◌, ◌⊎◌, ℕ, ◌+◌, ◌^◌, ◌<◌, ◌≤◌, List, [], ◌∷◌, ◌++◌, length, map, set, get_or, inl, inr, sym, ap, ◌∙◌, subst, arith, ⊎_elim}
use Rattle.std.proofs.lemmas.List.{get_or-map, length-map, get_or_append_left, length-append}
use Rattle.std.proofs.lemmas.List.Elements.{Contains-get_or, Contains-push, Contains-push_cases, Contains-append_left}
use Rattle.std.proofs.Math.Seq.{get_or-append_seam}
use Rattle.attach_dict.proofs.Common.{cases_eq, cases_lt, length-set, get_or-set_same, get_or-set_other, Contains, version_in, layout_rules, bounds_of}
use Rattle.attach_dict.specs.declared.heads.Head.{Head}
use Rattle.attach_dict.specs.declared.index.DictIndex.{DictIndex}
use Rattle.attach_dict.specs.Dict.{stage, HasSome, HasNone, HasPair, IsPair}
use Rattle.attach_dict.specs.Heads.{AreApart}
use Rattle.attach_dict.specs.Index.{IsBlank}
use Rattle.attach_dict.specs.Reading.{HoldsPair, HoldsHead, IsScanned}
use Rattle.attach_dict.specs.Roots.{Roots, IsIn, HasMoreRoots}
use Rattle.attach_dict.specs.View.{IsNumbered, IsVacant}
use Rattle.attach_dict.proofs.Pairs.{some_of, IsSamePair, pair_once}
use Rattle.attach_dict.proofs.Less.{none_not_some}

-- the roots of an arena are few
pub roots_few : (words : List ℕ) → (bounds_of words).roots < 2 ^ 16
roots_few words = (layout_rules (version_in words)).few_roots

-- no root was read yet
pub scanned_none : (words : List ℕ) (heads : List Head) (index : DictIndex) → heads ≡ [] → IsBlank index (bounds_of words).roots → IsScanned words 1 heads index
scanned_none words heads index empty blank =
    let none : (h : Head) → ¬ (Contains heads h) = λ h has. omega (arith, has.1, ap (λ (hs : List Head). length hs) empty) in
    record {
      pairs = λ root low high some. absurd (omega (arith, low, high));
      heads_are = record {
        are = λ h has. absurd (none h has);
        below = λ h has. absurd (none h has);
        each = λ root key number value low pair. absurd (omega (arith, low, pair.low));
      };
      apart = λ i j d less inside. absurd (omega (arith, inside, length-map heads (λ (h : Head). h.root), ap (λ (hs : List Head). length hs) empty));
      numbers = record {
        size = blank.numbers.size;
        each = λ root key number value low pair. absurd (omega (arith, low, pair.low));
        are = λ root some. absurd (some (blank.numbers.none root));
      };
      free = record {
        below = blank.free.below_is;
        are = λ root is. absurd (blank.free.none root is);
        each = λ root vacant. absurd (omega (arith, vacant.low, vacant.high));
      };
      keys = blank.keys;
      stale = blank.stale;
      wide = blank.wide;
    }

-- a head comes behind others of lower roots
pub apart_push : (heads : List Head) (h : Head) → AreApart heads → ((x : Head) → Contains heads x → x.root < h.root) → AreApart (heads ++ h ∷ [])
apart_push heads h apart above i j e less inside same =
    let size : length (heads ++ h ∷ []) ≡ length heads + 1 = length-append heads (h ∷ []) in
    let low : j < length heads + 1 = omega (arith, inside, size, length-map (heads ++ h ∷ []) (λ (x : Head). x.root)) in
    ⊎_elim
    (λ (front : j < length heads).
    apart i j e less (omega (arith, front, length-map heads (λ (x : Head). x.root))) (sym (as_was i (omega (arith, less, front))) ∙ (same ∙ as_was j front)))
    (λ (end : length heads ≤ j).
    let first : get_or (map (λ (x : Head). x.root) (heads ++ h ∷ [])) i e ≡ (get_or heads i h).root = as_was i (omega (arith, less, low)) ∙ get_or-map (λ (x : Head). x.root) heads i h e (omega (arith, less, low)) in
    let last : get_or (map (λ (x : Head). x.root) (heads ++ h ∷ [])) j e ≡ h.root =
    get_or-map (λ (x : Head). x.root) (heads ++ h ∷ []) j h e (omega (arith, low, size))
    ∙ ap (λ (x : Head). x.root) (ap (λ (n : ℕ). get_or (heads ++ h ∷ []) n h) (omega (arith, end, low)) ∙ get_or-append_seam heads h [] h) in
    omega (arith, first, last, same, above (get_or heads i h) (Contains-get_or heads i h (omega (arith, less, low)))))
    (cases_lt j (length heads))
  where
    as_was : (k : ℕ) → k < length heads → get_or (map (λ (x : Head). x.root) (heads ++ h ∷ [])) k e ≡ get_or (map (λ (x : Head). x.root) heads) k e
    as_was k in_front =
        get_or-map (λ (x : Head). x.root) (heads ++ h ∷ []) k h e (omega (arith, in_front, length-append heads (h ∷ [])))
        ∙ (ap (λ (x : Head). x.root) (get_or_append_left heads (h ∷ []) h k in_front) ∙ sym (get_or-map (λ (x : Head). x.root) heads k h e in_front))

module _ (words : List ℕ) (root : ℕ) (heads : List Head) (index : DictIndex) (scanned : IsScanned words root heads index) (low : stage < root) where
  -- a root below the end, or the root
  at_or_below : (other : ℕ) → other < root + 1 → (other ≡ root) ⊎ (other < root)
  at_or_below other below = ⊎_elim (λ (is : other < root). inr is) (λ (from : root ≤ other). inl (omega (arith, from, below))) (cases_lt other root)

  -- a root without a block
  pub scanned_empty : (free : Roots) → HasNone words root → HasMoreRoots index.free root free → IsScanned words (root + 1) heads (record { keys = index.keys; numbers = index.numbers; free = free; stale = index.stale; block = index.block })
  scanned_empty free none more = record {
    pairs = λ other above below some. ⊎_elim
        (λ (same : other ≡ root). absurd (none_not_some none (subst (λ (r : ℕ). HasSome words r) same some)))
        (λ (less : other < root). scanned.pairs other above less some)
        (at_or_below other below);
    heads_are = record {
      are = scanned.heads_are.are;
      below = λ h has. omega (arith, scanned.heads_are.below h has);
      each = λ other key number value below pair. ⊎_elim
          (λ (same : other ≡ root). absurd (none_not_some none (subst (λ (r : ℕ). HasSome words r) same (some_of pair))))
          (λ (less : other < root). scanned.heads_are.each other key number value less pair)
          (at_or_below other below);
    };
    apart = scanned.apart;
    numbers = record {
      size = scanned.numbers.size;
      each = λ other key number value below pair. ⊎_elim
          (λ (same : other ≡ root). absurd (none_not_some none (subst (λ (r : ℕ). HasSome words r) same (some_of pair))))
          (λ (less : other < root). scanned.numbers.each other key number value less pair)
          (at_or_below other below);
      are = scanned.numbers.are;
    };
    free = record {
      below = more.below ∙ scanned.free.below;
      are = λ other is. ⊎_elim
          (λ (had : IsIn index.free other). let v = scanned.free.are other had in record { low = v.low; high = omega (arith, v.high); none = v.none })
          (λ (same : other ≡ root). subst (λ (r : ℕ). IsVacant words (root + 1) r) (sym same) (record { low = low; high = omega arith; none = none }))
          (more.each other is);
      each = λ other vacant. ⊎_elim
          (λ (same : other ≡ root). subst (λ (r : ℕ). IsIn free r) (sym same) more.here)
          (λ (less : other < root). more.kept other (scanned.free.each other (record { low = vacant.low; high = less; none = vacant.none })))
          (at_or_below other vacant.high);
    };
    keys = scanned.keys;
    stale = scanned.stale;
    wide = scanned.wide;
  }

  -- a root whose block is a pair
  module _ (h : Head) (is : h.root ≡ root) (holds : HoldsHead words h) (high : root < (bounds_of words).roots) where
    pair_here : IsPair words root h.key h.number holds.value
    pair_here = record { low = low; has = subst (λ (n : ℕ). HasPair words n h.key h.number holds.value) is holds.pair }

    not_vacant : {other : ℕ} → HasNone words other → other ≢ root
    not_vacant {other} empty same = none_not_some (subst (λ (n : ℕ). HasNone words n) same empty) (some_of pair_here)

    once : (other key number : ℕ) (value : List ℕ) → other ≡ root → IsPair words other key number value → IsSamePair key h.key number h.number value holds.value
    once other key number value same pair = pair_once words root key h.key number h.number value holds.value (subst (λ (n : ℕ). HasPair words n key number value) same pair.has) pair_here.has

    numbered : get_or (set index.numbers root h.number) root 0 ≡ h.number
    numbered = get_or-set_same index.numbers root h.number 0 (subst (λ (n : ℕ). root < n) (sym scanned.numbers.size) high)

    pub scanned_pair : IsScanned words (root + 1) (heads ++ h ∷ []) (record { keys = index.keys; numbers = set index.numbers root h.number; free = index.free; stale = index.stale; block = index.block })
    scanned_pair = record {
      pairs = λ other above below some. ⊎_elim
          (λ (same : other ≡ root). subst (λ (r : ℕ). HoldsPair words r) (sym same) (record { key = h.key; number = h.number; value = holds.value; pair = pair_here.has }))
          (λ (less : other < root). scanned.pairs other above less some)
          (at_or_below other below);
      heads_are = record {
        are = λ x has. ⊎_elim
            (λ (had : Contains heads x). scanned.heads_are.are x had)
            (λ (same : h ≡ x). subst (λ (y : Head). (stage < y.root) × HoldsHead words y) same (omega (arith, low, is), holds))
            (Contains-push_cases heads h x has);
        below = λ x has. ⊎_elim
            (λ (had : Contains heads x). omega (arith, scanned.heads_are.below x had))
            (λ (same : h ≡ x). omega (arith, is, ap (λ (y : Head). y.root) same))
            (Contains-push_cases heads h x has);
        each = λ other key number value below pair. ⊎_elim
            (λ (same : other ≡ root).
            let o : IsSamePair key h.key number h.number value holds.value = once other key number value same pair in
            let it : h ≡ record { key = key; number = number; root = other } = λ i. record { key = sym o.key_is i; number = sym o.number_is i; root = (is ∙ sym same) i } in
            subst (λ (x : Head). Contains (heads ++ h ∷ []) x) it (Contains-push heads h))
            (λ (less : other < root). Contains-append_left heads (h ∷ []) (record { key = key; number = number; root = other }) (scanned.heads_are.each other key number value less pair))
            (at_or_below other below);
      };
      apart = apart_push heads h scanned.apart (λ x has. omega (arith, is, scanned.heads_are.below x has));
      numbers = record {
        size = length-set index.numbers root h.number ∙ scanned.numbers.size;
        each = λ other key number value below pair. ⊎_elim
            (λ (same : other ≡ root). ap (λ (r : ℕ). get_or (set index.numbers root h.number) r 0) same ∙ (numbered ∙ sym (once other key number value same pair).number_is))
            (λ (less : other < root). get_or-set_other index.numbers root other h.number 0 (λ same. omega (arith, less, same)) ∙ scanned.numbers.each other key number value less pair)
            (at_or_below other below);
        are = λ other some. ⊎_elim
            (λ (same : other ≡ root).
            let it : get_or (set index.numbers root h.number) other 0 ≡ h.number = ap (λ (r : ℕ). get_or (set index.numbers root h.number) r 0) same ∙ numbered in
            subst (λ (n : ℕ). IsNumbered words other n) (sym it) (subst (λ (r : ℕ). IsNumbered words r h.number) (sym same) (record { key = h.key; value = holds.value; pair = pair_here })))
            (λ (apart : other ≢ root).
            let it : get_or (set index.numbers root h.number) other 0 ≡ get_or index.numbers other 0 = get_or-set_other index.numbers root other h.number 0 apart in
            subst (λ (n : ℕ). IsNumbered words other n) (sym it) (scanned.numbers.are other (λ zero. some (it ∙ zero))))
            (cases_eq other root);
      };
      free = record {
        below = scanned.free.below;
        are = λ other in_set. let v = scanned.free.are other in_set in record { low = v.low; high = omega (arith, v.high); none = v.none };
        each = λ other vacant. scanned.free.each other (record { low = vacant.low; high = ⊎_elim (λ (same : other ≡ root). absurd (not_vacant vacant.none same)) (λ (less : other < root). less) (at_or_below other vacant.high); none = vacant.none });
      };
      keys = scanned.keys;
      stale = scanned.stale;
      wide = scanned.wide;
    }
