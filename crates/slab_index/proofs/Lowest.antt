-- The lowest available block of a class, from the least numbers of the sets that an index keeps.
use Rattle.std.proofs.Common.{◌≡◌, ℕ, ◌+◌, ◌*◌, ◌/◌, ◌<◌, ◌≤◌, ⊎_elim, true, false, ltb, ◌&&◌, List, Option, Some, None, get_or, refl, sym, ap, ◌∙◌, arith}
use Rattle.slab_index.proofs.Common.{cases_lt, eq-eqb, eqb-true, ltb-true, ltb-false, and_parts, false≢true, has, has-zero}
use Rattle.slab_index.specs.SlabSet.{SlabSet, class_in, is_available, HasNoBlock, IsLowest}
use Rattle.slab_index.specs.Kept.{set_of, capacity_or_none, capacity_at, is_class, IsSummary, IsIndex, IsLeastAt, IsFirstBlock, IsUsedUp}
use Rattle.slab_index.proofs.Steps.{start_here}
use Rattle.slab_index.proofs.Views.{class_of_list, available_within, available_past, slab_inside}

-- sets with the words that are not 0

module _ {words some : List ℕ} (summary : IsSummary words some) where
  -- a word that is 0 has no number
  pub none_of_word : (k : ℕ) → has some (k / 64) ≡ false → has words k ≡ false
  none_of_word k none = has-zero words k (omega (arith, ltb-false 0 (get_or words (k / 64) 0) (sym (summary.is (k / 64)) ∙ none)))

  -- nor has a place of which all words are 0
  pub none_at : (place number : ℕ) → get_or some place 0 ≡ 0 → number < 4096 → has words (4096 * place + number) ≡ false
  none_at place number none small =
      let k = 4096 * place + number in
      let here : k / 64 / 64 ≡ place = omega arith in
      none_of_word k (has-zero some (k / 64) (ap (λ s. get_or some s 0) here ∙ none))

  -- nor is there one below the least of a place
  pub none_below : (place number lower : ℕ) → IsLeastAt words some place number → lower < number → has words (4096 * place + lower) ≡ false
  none_below place number lower least before =
      let k = 4096 * place + lower in
      let small : lower < 4096 = omega (arith, least.least_word.high, least.least.high) in
      ⊎_elim
      (λ (earlier : k < 64 * least.word). none_of_word k (least.least_word.least (k / 64) (omega arith) (omega arith)))
      (λ (here : 64 * least.word ≤ k). least.least.least k here (omega arith))
      (cases_lt k (64 * least.word))

-- which is one of its 4096 numbers
pub least_inside : {words some : List ℕ} (place number : ℕ) → IsLeastAt words some place number → number < 4096
least_inside place number least = omega (arith, least.least_word.high, least.least.high)

-- a class by its test
class_by_test : (slab : Option ℕ) (class : ℕ) → is_class slab class ≡ true → slab ≡ Some class
class_by_test None class is = absurd (false≢true is)
class_by_test (Some other) class is = ap Some (eqb-true other class is)

-- the slab that a number of the sets of starts says
record IsStart (classes : List (Option ℕ)) (some : List ℕ) (class start : ℕ) : Type 0 where
  slab : get_or classes start None ≡ Some class
  word : 0 < get_or some start 0

module _ {granules : ℕ} {classes : List (Option ℕ)} {blocks some starts some_starts : List ℕ} {set : SlabSet} (is : set_of granules classes blocks ≡ set) (index : IsIndex granules classes blocks some starts some_starts) where
  -- the words of blocks that are not 0
  blocks_summary : IsSummary blocks some
  blocks_summary = record { is = index.some_is }

  -- a number in its class's set is a slab's
  start_of : (class start : ℕ) → start < 4096 → has starts (4096 * class + start) ≡ true → IsStart classes some class start
  start_of class start small found =
      let test : (is_class (get_or classes start None) class && ltb 0 (get_or some start 0)) ≡ true =
      sym (start_here classes some start class (get_or classes start None) small refl) ∙ sym (index.starts_is (4096 * class + start)) ∙ found in
      let both = and_parts (is_class (get_or classes start None) class) (ltb 0 (get_or some start 0)) test in
      record {
        slab = class_by_test (get_or classes start None) class both.0;
        word = ltb-true 0 (get_or some start 0) both.1;
      }

  -- a slab of which all words are 0 has no available block
  none_of_slab : (start number : ℕ) → get_or some start 0 ≡ 0 → is_available set start number ≡ false
  none_of_slab start number none = ⊎_elim
      (λ (below : number < 4096). available_within is start number below ∙ none_at blocks_summary start number none below)
      (λ (past : 4096 ≤ number). available_past is start number past)
      (cases_lt number 4096)

  -- nor has a slab that is not in its class's set
  none_of_start : (class start number : ℕ) → class_in set start ≡ Some class → has starts (4096 * class + start) ≡ false → is_available set start number ≡ false
  none_of_start class start number slab none =
      let listed : get_or classes start None ≡ Some class = sym (class_of_list is start) ∙ slab in
      let small : start < 4096 = omega (arith, slab_inside index start class listed, index.most) in
      let test : ltb 0 (get_or some start 0) ≡ false =
      ap (λ b. b && ltb 0 (get_or some start 0)) (sym (eq-eqb class class refl))
      ∙ sym (start_here classes some start class (Some class) small listed)
      ∙ sym (index.starts_is (4096 * class + start))
      ∙ none in
      none_of_slab start number (omega (arith, ltb-false 0 (get_or some start 0) test))

  -- where no start is in a class's set, no slab of the class has an available block
  pub no_block : (class : ℕ) → get_or some_starts class 0 ≡ 0 → HasNoBlock set class
  no_block class none = record {
    none = λ start number slab.
        let inside = slab_inside index start class (sym (class_of_list is start) ∙ slab) in
        none_of_start class start number slab (none_at index.summary class start none (omega (arith, inside, index.most)));
  }

  -- nor has a slab without a word that is not 0
  pub used_up : (start : ℕ) → get_or some start 0 ≡ 0 → IsUsedUp set start
  used_up start none = record { none = λ number. none_of_slab start number none }

  -- the least number of a slab is its lowest available block
  pub first_block : (start number : ℕ) → IsLeastAt blocks some start number → IsFirstBlock set start number
  first_block start number least =
      let few = least_inside start number least in
      record {
        available = available_within is start number few ∙ least.least.is;
        first = λ i before. available_within is start i (omega (arith, few)) ∙ none_below blocks_summary start number i least before;
      }

  -- the least start of a class is that of a slab of the class, which has a word that is not 0
  least_start : (class start : ℕ) → IsLeastAt starts some_starts class start → IsStart classes some class start
  least_start class start least = start_of class start (least_inside class start least) least.least.is

  pub start_inside : (class start : ℕ) → IsLeastAt starts some_starts class start → start < granules
  start_inside class start least = slab_inside index start class (least_start class start least).slab

  pub start_has_word : (class start : ℕ) → IsLeastAt starts some_starts class start → 0 < get_or some start 0
  start_has_word class start least = (least_start class start least).word

  -- the least start of the class, and the least block of that
  pub lowest : (class start number : ℕ) → IsLeastAt starts some_starts class start → IsLeastAt blocks some start number → IsLowest set class (record { start = start; number = number })
  lowest class start number least least_block =
      let slab = least_start class start least in
      let few = least_inside start number least_block in
      let place : (4096 * start + number) / 4096 ≡ start = omega arith in
      let first = first_block start number least_block in
      record {
        slab = class_of_list is start ∙ slab.slab;
        below = omega (arith, index.below (4096 * start + number) least_block.least.is, ap (capacity_at classes) place, ap capacity_or_none slab.slab);
        available = first.available;
        first = first.first;
        lower = λ s i before slab. none_of_start class s i slab (none_below index.summary class start s least before);
      }
