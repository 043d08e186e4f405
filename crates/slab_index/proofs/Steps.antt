-- An index after a step is an index again.
use Rattle.std.proofs.Common.{◌≡◌, ◌≢◌, ℕ, ◌+◌, ◌*◌, ◌/◌, ◌%◌, ◌^◌, ◌<◌, ◌≤◌, min, ⊎_elim, Bool, true, false, eqb, ltb, not, ◌&&◌, List, Option, Some, None, length, get_or, set, refl, sym, ap, ◌∙◌, subst, arith}
use Rattle.slab_index.proofs.Common.{cases_eq, eq-eqb, ne_eqb, lt-ltb, le-ltb, ltb-true, cond-true, cond-false, and_left, get_or_read, get_or-set_same, get_or-set_other, length-set, has, ones, IsPut, IsFilled, put_beside, told_after, fits_filled, has_filled, some_filled}
use Rattle.slab_index.specs.Kept.{capacity_or_none, capacity_at, is_class, has_block, IsSummary, IsIndex, HasPlaceFor, IsSummedUp}

-- one slab of the list is another
pub record IsReplaced (old : List (Option ℕ)) (start : ℕ) (slab : Option ℕ) (new : List (Option ℕ)) : Type 0 where
  pub size : length new ≡ length old
  pub here : get_or new start None ≡ slab
  pub others : (other : ℕ) → other ≢ start → get_or new other None ≡ get_or old other None

pub IsReplaced-set : (old : List (Option ℕ)) (start : ℕ) (slab : Option ℕ) → start < length old → IsReplaced old start slab (set old start slab)
IsReplaced-set old start slab inside = record {
  size = length-set old start slab;
  here = get_or-set_same old start slab None inside;
  others = λ other apart. get_or-set_other old start other slab None apart;
}

-- a slab has no class but this
pub record HasOnly (slab : Option ℕ) (class : ℕ) : Type 0 where
  pub none : (other : ℕ) → other ≢ class → is_class slab other ≡ false

pub HasOnly-some : (slab : Option ℕ) (class : ℕ) → slab ≡ Some class → HasOnly slab class
HasOnly-some slab class is = record { none = λ other apart. ap (λ s. is_class s other) is ∙ ne_eqb class other (λ e. apart (sym e)) }

pub HasOnly-none : (slab : Option ℕ) (class : ℕ) → slab ≡ None → HasOnly slab class
HasOnly-none slab class is = record { none = λ other apart. ap (λ s. is_class s other) is }

-- what changes at one granule, and there for one class, changes one number of the sets of starts
pub starts_beside : (classes later : List (Option ℕ)) (some more : List ℕ) (start class k : ℕ) →
    ((other : ℕ) → other ≢ start → get_or later other None ≡ get_or classes other None) → ((other : ℕ) → other ≢ start → get_or more other 0 ≡ get_or some other 0) →
    HasOnly (get_or classes start None) class → HasOnly (get_or later start None) class → k ≢ 4096 * class + start → has_block classes some k ≡ has_block later more k
starts_beside classes later some more start class k same_classes same_some only only_later apart = ⊎_elim
    (λ (here : k % 4096 ≡ start).
    let differ : k / 4096 ≢ class = λ e. apart (omega (arith, e)) in
    let test = ltb 0 (get_or some (k % 4096) 0) in
    let test_more = ltb 0 (get_or more (k % 4096) 0) in
    let before : is_class (get_or classes (k % 4096) None) (k / 4096) ≡ false = ap (λ s. is_class (get_or classes s None) (k / 4096)) here ∙ only.none (k / 4096) differ in
    let after : is_class (get_or later (k % 4096) None) (k / 4096) ≡ false = ap (λ s. is_class (get_or later s None) (k / 4096)) here ∙ only_later.none (k / 4096) differ in
    and_left (is_class (get_or classes (k % 4096) None) (k / 4096)) test before ∙ sym (and_left (is_class (get_or later (k % 4096) None) (k / 4096)) test_more after))
    (λ (there : k % 4096 ≢ start).
    ap (λ slab. is_class slab (k / 4096) && ltb 0 (get_or some (k % 4096) 0)) (sym (same_classes (k % 4096) there))
    ∙ ap (λ word. is_class (get_or later (k % 4096) None) (k / 4096) && ltb 0 word) (sym (same_some (k % 4096) there)))
    (cases_eq (k % 4096) start)

-- a start that joins or leaves its class's set
pub start_here : (classes : List (Option ℕ)) (some : List ℕ) (start class : ℕ) (slab : Option ℕ) → start < 4096 → get_or classes start None ≡ slab →
    has_block classes some (4096 * class + start) ≡ (is_class slab class && ltb 0 (get_or some start 0))
start_here classes some start class slab small is =
    let place : (4096 * class + start) % 4096 ≡ start = omega arith in
    let of_class : (4096 * class + start) / 4096 ≡ class = omega arith in
    ap (λ s. is_class (get_or classes s None) ((4096 * class + start) / 4096) && ltb 0 (get_or some s 0)) place
    ∙ ap (λ c. is_class (get_or classes start None) c && ltb 0 (get_or some start 0)) of_class
    ∙ ap (λ s. is_class s class && ltb 0 (get_or some start 0)) is

-- a word that is read is the list's
pub word_read : (items words : List ℕ) (at word : ℕ) → items ≡ words → at < length words → word ≡ get_or items at word → word ≡ get_or words at 0
word_read items words at word same inside read = get_or_read words at word inside (read ∙ ap (λ ws. get_or ws at word) same) 0

-- `word != 0`
pub some_by_word : (word kept : ℕ) → word ≡ kept → not (eqb word 0) ≡ ltb 0 kept
some_by_word word kept is = ⊎_elim
    (λ (zero : word ≡ 0). ap not (eq-eqb word 0 zero) ∙ sym (le-ltb 0 kept (omega arith)))
    (λ (more : word ≢ 0). ap not (ne_eqb word 0 more) ∙ sym (lt-ltb 0 kept (omega arith)))
    (cases_eq word 0)

-- a word of blocks is one of a slab of the class
pub record IsWordOf (granules : ℕ) (classes : List (Option ℕ)) (class at : ℕ) : Type 0 where
  pub slab : get_or classes (at / 64) None ≡ Some class
  pub inside : at / 64 < granules
  pub known : class < 36

-- an index has a place for such a word
pub has_place : {granules : ℕ} {classes : List (Option ℕ)} {blocks some starts some_starts turned : List ℕ} {class at : ℕ} → IsIndex granules classes blocks some starts some_starts → length turned ≡ length blocks → IsWordOf granules classes class at →
    HasPlaceFor turned some starts some_starts class at
has_place index size word = record {
  block = omega (arith, size, word.inside, index.blocks_size);
  slab = omega (arith, word.inside, index.some_size);
  start = omega (arith, word.inside, word.known, index.most, index.starts_size);
  some_start = omega (arith, word.inside, word.known, index.most, index.some_starts_size);
  summary = index.summary;
}

-- an index after one word of its blocks changed
pub IsIndex-turned : {granules : ℕ} {classes : List (Option ℕ)} {blocks some starts some_starts : List ℕ} (turned some' starts' some_starts' : List ℕ) (i class : ℕ) →
    IsIndex granules classes blocks some starts some_starts → IsWordOf granules classes class i → length turned ≡ length blocks →
    ((j : ℕ) → j ≢ i → get_or turned j 0 ≡ get_or blocks j 0) → ((j : ℕ) → get_or turned j 0 < 2 ^ 64) → ((k : ℕ) → has turned k ≡ true → k % 4096 < capacity_at classes (k / 4096)) →
    IsSummedUp turned some starts some_starts class i some' starts' some_starts' →
    IsIndex granules classes turned some' starts' some_starts'
IsIndex-turned {granules} {classes} {blocks} {some} {starts} {some_starts} turned some' starts' some_starts' i class index word size others fits below sums = record {
  least = index.least;
  most = index.most;
  classes_size = index.classes_size;
  blocks_size = size ∙ index.blocks_size;
  some_size = sums.word.size ∙ index.some_size;
  starts_size = sums.start.size ∙ index.starts_size;
  some_starts_size = sums.some_size ∙ index.some_starts_size;
  summary = sums.summary;
  known = index.known;
  fits = fits;
  few = index.few;
  below = below;
  some_is = told_after (λ j. ltb 0 (get_or blocks j 0)) (λ j. ltb 0 (get_or turned j 0)) sums.word index.some_is refl (λ j apart. ap (ltb 0) (sym (others j apart)));
  starts_is = told_after (has_block classes some) (has_block classes some') sums.start index.starts_is
      (ap (λ b. b && ltb 0 (get_or some' (i / 64) 0)) (sym (eq-eqb class class refl))
      ∙ sym (start_here classes some' (i / 64) class (Some class) (omega (arith, word.inside, index.most)) word.slab))
      (λ j apart. starts_beside classes classes some some' (i / 64) class j (λ other differ. refl)
      (λ other differ. sums.word.others other (λ e. differ (omega (arith, e))))
      (HasOnly-some (get_or classes (i / 64) None) class word.slab)
      (HasOnly-some (get_or classes (i / 64) None) class word.slab)
      apart);
}

-- the numbers of a slab's word after one was put in or out
pub below_put : (classes : List (Option ℕ)) {blocks turned : List ℕ} {on : Bool} (start number : ℕ) → number < capacity_at classes start → number < 4096 → ((k : ℕ) → has blocks k ≡ true → k % 4096 < capacity_at classes (k / 4096)) →
    IsPut blocks (4096 * start + number) on turned → (k : ℕ) → has turned k ≡ true → k % 4096 < capacity_at classes (k / 4096)
below_put classes start number below small were put k is = ⊎_elim
    (λ (same : k ≡ 4096 * start + number).
    let place : k / 4096 ≡ start = omega (arith, same) in
    subst (λ s. k % 4096 < capacity_at classes s) (sym place) (omega (arith, same)))
    (λ (apart : k ≢ 4096 * start + number). were k (sym (put_beside put k apart) ∙ is))
    (cases_eq k (4096 * start + number))

-- an index after a slab was added or taken out
pub IsIndex-filled : {granules : ℕ} {classes : List (Option ℕ)} {blocks some starts some_starts : List ℕ} (later : List (Option ℕ)) (filled starts' some_starts' : List ℕ) (start class n word : ℕ) (slab : Option ℕ) (on : Bool) →
    IsIndex granules classes blocks some starts some_starts → start < granules → IsReplaced classes start slab later → IsFilled blocks start n filled → n ≡ capacity_or_none slab → n ≤ 4096 → word ≡ ones (n / 64 + min 1 (n % 64)) →
    HasOnly (get_or classes start None) class → HasOnly slab class → ((other : ℕ) → slab ≡ Some other → other < 36) →
    IsPut starts (4096 * class + start) on starts' → on ≡ (is_class slab class && ltb 0 word) → length some_starts' ≡ length some_starts → IsSummary starts' some_starts' →
    IsIndex granules later filled (set some start word) starts' some_starts'
IsIndex-filled {granules} {classes} {blocks} {some} {starts} {some_starts} later filled starts' some_starts' start class n word slab on index inside replaced fills room small word_is only only_later known put on_is some_size summary =
    let more = set some start word in
    let in_some : start < length some = omega (arith, index.some_size) in
    let here : capacity_at later start ≡ n = ap capacity_or_none replaced.here ∙ sym room in
    let there : (other : ℕ) → other ≢ start → capacity_at later other ≡ capacity_at classes other = λ other apart. ap capacity_or_none (replaced.others other apart) in
    record {
      least = index.least;
      most = index.most;
      classes_size = replaced.size ∙ index.classes_size;
      blocks_size = fills.size ∙ index.blocks_size;
      some_size = length-set some start word ∙ index.some_size;
      starts_size = put.size ∙ index.starts_size;
      some_starts_size = some_size ∙ index.some_starts_size;
      summary = summary;
      known = λ s c is. ⊎_elim
          (λ (same : s ≡ start). known c (sym replaced.here ∙ ap (λ t. get_or later t None) (sym same) ∙ is))
          (λ (apart : s ≢ start). index.known s c (sym (replaced.others s apart) ∙ is))
          (cases_eq s start);
      fits = fits_filled fills index.fits;
      few = λ s. ⊎_elim
          (λ (same : s ≡ start). omega (arith, ap (capacity_at later) same, here))
          (λ (apart : s ≢ start). omega (arith, there s apart, index.few s))
          (cases_eq s start);
      below = λ k is. ⊎_elim
          (λ (same : k / 4096 ≡ start).
          let test : ltb (k % 4096) n ≡ true = sym (cond-true (eqb (k / 4096) start) (ltb (k % 4096) n) (has blocks k) (eq-eqb (k / 4096) start same)) ∙ sym (has_filled fills k) ∙ is in
          omega (arith, ltb-true (k % 4096) n test, ap (capacity_at later) same, here))
          (λ (apart : k / 4096 ≢ start).
          let before : has blocks k ≡ true = sym (cond-false (eqb (k / 4096) start) (ltb (k % 4096) n) (has blocks k) (ne_eqb (k / 4096) start apart)) ∙ sym (has_filled fills k) ∙ is in
          omega (arith, index.below k before, there (k / 4096) apart))
          (cases_eq (k / 4096) start);
      some_is = some_filled some word fills word_is in_some index.some_is;
      starts_is = told_after (has_block classes some) (has_block later more) put index.starts_is
          (on_is
          ∙ ap (λ w. is_class slab class && ltb 0 w) (sym (get_or-set_same some start word 0 in_some))
          ∙ sym (start_here later more start class slab (omega (arith, index.most)) replaced.here))
          (λ j apart. starts_beside classes later some more start class j replaced.others
          (λ other differ. get_or-set_other some start other word 0 differ)
          only
          (subst (λ s. HasOnly s class) (sym replaced.here) only_later)
          apart);
    }
