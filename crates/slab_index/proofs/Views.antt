-- What the lists of an index say of its slabs and blocks.
use Rattle.std.proofs.Common.{◌≡◌, ◌≢◌, ℕ, ◌+◌, ◌*◌, ◌/◌, ◌%◌, ◌<◌, ◌≤◌, ◌⊎◌, ⊎_elim, Bool, true, false, cond, eqb, ltb, ◌&&◌, List, Option, Some, None, get_or, refl, sym, ap, ◌∙◌, arith}
use Rattle.slab_index.proofs.Common.{both_ways, false_from_ne_true, eqb-true, cases_lt, cases_eq, cases_Bool, eq-eqb, ne_eqb, lt-ltb, le-ltb, ltb-true, cond-true, cond-false, and_parts, and_from, and_left, get_or_past, has, IsPut, IsFilled, put_here, put_beside, has_filled}
use Rattle.slab_index.specs.SlabSet.{SlabSet, class_in, is_available, IsBlock}
use Rattle.slab_index.specs.Kept.{set_of, capacity_or_none, capacity_at, IsIndex}
use Rattle.slab_index.proofs.Steps.{IsReplaced, IsWordOf}

-- a slab of the set is one of the list
pub class_of_list : {granules : ℕ} {classes : List (Option ℕ)} {blocks : List ℕ} {set : SlabSet} → set_of granules classes blocks ≡ set → (s : ℕ) → class_in set s ≡ get_or classes s None
unfolding class_in
class_of_list is s = sym (ap (λ set. class_in set s) is)

-- so many granules
pub granules_of : (granules : ℕ) (classes : List (Option ℕ)) (blocks : List ℕ) {set : SlabSet} → set_of granules classes blocks ≡ set → set.granules ≡ granules
granules_of granules classes blocks is = sym (ap (λ (s : SlabSet). s.granules) is)

-- an available block of the set is a number of the blocks
pub available_in : {granules : ℕ} {classes : List (Option ℕ)} {blocks : List ℕ} {set : SlabSet} → set_of granules classes blocks ≡ set → (s i : ℕ) → is_available set s i ≡ (ltb i 4096 && has blocks (4096 * s + i))
unfolding is_available
available_in is s i = sym (ap (λ set. is_available set s i) is)

pub available_within : {granules : ℕ} {classes : List (Option ℕ)} {blocks : List ℕ} {set : SlabSet} → set_of granules classes blocks ≡ set → (s i : ℕ) → i < 4096 → is_available set s i ≡ has blocks (4096 * s + i)
available_within {granules} {classes} {blocks} is s i below = available_in is s i ∙ ap (λ b. b && has blocks (4096 * s + i)) (lt-ltb i 4096 below)

pub available_past : {granules : ℕ} {classes : List (Option ℕ)} {blocks : List ℕ} {set : SlabSet} → set_of granules classes blocks ≡ set → (s i : ℕ) → 4096 ≤ i → is_available set s i ≡ false
available_past {granules} {classes} {blocks} is s i past = available_in is s i ∙ and_left (ltb i 4096) (has blocks (4096 * s + i)) (le-ltb i 4096 past)

-- a number below a slab's capacity is one of its blocks
block_of : {granules : ℕ} {classes : List (Option ℕ)} {blocks : List ℕ} {set : SlabSet} → set_of granules classes blocks ≡ set → (s i : ℕ) (slab : Option ℕ) → get_or classes s None ≡ slab → i < capacity_or_none slab → IsBlock set s i
block_of is s i None listed below = absurd (omega arith)
block_of is s i (Some class) listed below = record { class = class; slab = class_of_list is s ∙ listed; below = below }

pub block_by_capacity : {granules : ℕ} {classes : List (Option ℕ)} {blocks : List ℕ} {set : SlabSet} → set_of granules classes blocks ≡ set → (s i : ℕ) → i < capacity_at classes s → IsBlock set s i
block_by_capacity {granules} {classes} is s i below = block_of is s i (get_or classes s None) refl below

-- an available block is a block of a slab
pub block_if_available : {granules : ℕ} {classes : List (Option ℕ)} {blocks some starts some_starts : List ℕ} {set : SlabSet} → set_of granules classes blocks ≡ set → IsIndex granules classes blocks some starts some_starts →
    (s i : ℕ) → is_available set s i ≡ true → IsBlock set s i
block_if_available {granules} {classes} {blocks} is index s i available =
    let test : (ltb i 4096 && has blocks (4096 * s + i)) ≡ true = sym (available_in is s i) ∙ available in
    let both = and_parts (ltb i 4096) (has blocks (4096 * s + i)) test in
    let small : i < 4096 = ltb-true i 4096 both.0 in
    let place : (4096 * s + i) / 4096 ≡ s = omega arith in
    let number : (4096 * s + i) % 4096 ≡ i = omega arith in
    let below : i < capacity_at classes s = omega (arith, index.below (4096 * s + i) both.1, ap (capacity_at classes) place) in
    block_by_capacity is s i below

-- a block of a slab is below the capacity that the lists say
pub capacity_of_block : {granules : ℕ} {classes : List (Option ℕ)} {blocks : List ℕ} {set : SlabSet} → set_of granules classes blocks ≡ set → (s i : ℕ) → IsBlock set s i → i < capacity_at classes s
capacity_of_block {granules} {classes} is s i block = omega (arith, block.below, ap capacity_or_none (sym (class_of_list is s) ∙ block.slab))

-- a slab begins below the arena's end
pub slab_inside : {granules : ℕ} {classes : List (Option ℕ)} {blocks some starts some_starts : List ℕ} → IsIndex granules classes blocks some starts some_starts → (s class : ℕ) → get_or classes s None ≡ Some class → s < granules
slab_inside {granules} {classes} index s class is = ⊎_elim
    (λ (inside : s < granules). inside)
    (λ (past : granules ≤ s). absurd (let none : get_or classes s None ≡ None = get_or_past classes s None (omega (arith, index.classes_size)) in cc))
    (cases_lt s granules)

-- the classes after one slab was replaced
pub classes_after : {granules : ℕ} {classes later : List (Option ℕ)} {blocks : List ℕ} {set : SlabSet} {start : ℕ} {slab : Option ℕ} (left : ℕ) (filled : List ℕ) → set_of granules classes blocks ≡ set → IsReplaced classes start slab later →
    (s : ℕ) → class_in (set_of left later filled) s ≡ cond (eqb s start) slab (class_in set s)
classes_after {granules} {classes} {later} {blocks} {set} {start} {slab} left filled is replaced s = class_of_list {granules = left} {classes = later} {blocks = filled} refl s ∙ ⊎_elim
    (λ (same : s ≡ start). ap (λ t. get_or later t None) same ∙ replaced.here ∙ sym (cond-true (eqb s start) slab (class_in set s) (eq-eqb s start same)))
    (λ (apart : s ≢ start). replaced.others s apart ∙ sym (class_of_list is s) ∙ sym (cond-false (eqb s start) slab (class_in set s) (ne_eqb s start apart)))
    (cases_eq s start)

-- the blocks after one slab was filled
pub blocks_after : {granules : ℕ} {classes : List (Option ℕ)} {blocks filled : List ℕ} {set : SlabSet} {start n : ℕ} (left : ℕ) (later : List (Option ℕ)) → set_of granules classes blocks ≡ set → IsFilled blocks start n filled → n ≤ 4096 →
    (s i : ℕ) → is_available (set_of left later filled) s i ≡ cond (eqb s start) (ltb i n) (is_available set s i)
blocks_after {granules} {classes} {blocks} {filled} {set} {start} {n} left later is fills few s i =
    let k = 4096 * s + i in
    ⊎_elim
    (λ (small : i < 4096).
    let place : k / 4096 ≡ s = omega arith in
    let number : k % 4096 ≡ i = omega arith in
    available_within {granules = left} {classes = later} {blocks = filled} refl s i small
    ∙ has_filled fills k
    ∙ ap (λ t. cond (eqb t start) (ltb (k % 4096) n) (has blocks k)) place
    ∙ ap (λ t. cond (eqb s start) (ltb t n) (has blocks k)) number
    ∙ ap (λ b. cond (eqb s start) (ltb i n) b) (sym (available_within is s i small)))
    (λ (past : 4096 ≤ i).
    available_past {granules = left} {classes = later} {blocks = filled} refl s i past
    ∙ ⊎_elim
    (λ (same : s ≡ start). sym (cond-true (eqb s start) (ltb i n) (is_available set s i) (eq-eqb s start same) ∙ le-ltb i n (omega arith)))
    (λ (apart : s ≢ start). sym (cond-false (eqb s start) (ltb i n) (is_available set s i) (ne_eqb s start apart) ∙ available_past is s i past))
    (cases_eq s start))
    (cases_lt i 4096)

-- the blocks after one was turned
pub block_after : {granules : ℕ} {classes : List (Option ℕ)} {blocks turned : List ℕ} {set : SlabSet} {on : Bool} (left : ℕ) (later : List (Option ℕ)) (start number : ℕ) → set_of granules classes blocks ≡ set → number < 4096 →
    IsPut blocks (4096 * start + number) on turned →
    (s i : ℕ) → is_available (set_of left later turned) s i ≡ cond (eqb s start && eqb i number) on (is_available set s i)
block_after {granules} {classes} {blocks} {turned} {set} {on} left later start number is small put s i = ⊎_elim
    (λ (both : (eqb s start && eqb i number) ≡ true).
    let parts = and_parts (eqb s start) (eqb i number) both in
    let same_start : s ≡ start = eqb-true s start parts.0 in
    let same_number : i ≡ number = eqb-true i number parts.1 in
    available_within {granules = left} {classes = later} {blocks = turned} refl s i (omega arith)
    ∙ ap (λ t. has turned (4096 * t + i)) same_start
    ∙ ap (λ j. has turned (4096 * start + j)) same_number
    ∙ put_here put
    ∙ sym (cond-true (eqb s start && eqb i number) on (is_available set s i) both))
    (λ (other : (eqb s start && eqb i number) ≡ false). ⊎_elim
    (λ (below : i < 4096).
    let apart : 4096 * s + i ≢ 4096 * start + number = λ e.
    both_ways (eqb s start && eqb i number) other (and_from (eqb s start) (eqb i number) (eq-eqb s start (omega (arith, e))) (eq-eqb i number (omega (arith, e)))) in
    available_within {granules = left} {classes = later} {blocks = turned} refl s i below
    ∙ put_beside put (4096 * s + i) apart
    ∙ sym (available_within is s i below))
    (λ (past : 4096 ≤ i). available_past {granules = left} {classes = later} {blocks = turned} refl s i past ∙ sym (available_past is s i past))
    (cases_lt i 4096)
    ∙ sym (cond-false (eqb s start && eqb i number) on (is_available set s i) other))
    (cases_Bool (eqb s start && eqb i number))

-- no block is available past the arena's end or the last number
pub none_outside : {granules : ℕ} {classes : List (Option ℕ)} {blocks some starts some_starts : List ℕ} {set : SlabSet} → set_of granules classes blocks ≡ set → IsIndex granules classes blocks some starts some_starts →
    (s i : ℕ) → (granules ≤ s) ⊎ (4096 ≤ i) → is_available set s i ≡ false
none_outside is index s i outside = ⊎_elim
    (λ past. false_from_ne_true (is_available _ s i) (λ available.
    let block = block_if_available is index s i available in
    absurd (omega (arith, slab_inside index s block.class (sym (class_of_list is s) ∙ block.slab)))))
    (λ past. available_past is s i past)
    outside

-- a word of the blocks of a slab
pub word_of : {granules : ℕ} {classes : List (Option ℕ)} {blocks some starts some_starts : List ℕ} {set : SlabSet} → set_of granules classes blocks ≡ set → IsIndex granules classes blocks some starts some_starts →
    {start class at : ℕ} → Some class ≡ class_in set start → start ≡ at / 64 → IsWordOf granules classes class at
word_of {classes = classes} is index {start} {class} slab place =
    let listed = ap (λ k. get_or classes k None) (sym place) ∙ sym (class_of_list is start) ∙ sym slab in
    record { slab = listed; inside = slab_inside index _ class listed; known = index.known _ class listed }
