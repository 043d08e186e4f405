-- Which class is the least that holds a size.
use Rattle.std.proofs.Common.{◌≡◌, ◌<◌, ◌≤◌, ◌+◌, ◌-◌, ◌*◌, ◌/◌, ◌^◌, ⊎_elim, ℕ, ap, ◌∙◌, subst, arith}
use Rattle.std.proofs.lemmas.Bool.{cases_lt}
use Rattle.std.proofs.Math.Nat.{pow-le-pow_right}
use Rattle.std.proofs.lemmas.Nat.{pow_pos, pow-add, shr_split, mod_below, le-div, div_below}
use Rattle.size_classes.specs.Classes.{class_size, IsClassOf}
use Rattle.size_classes.proofs.Spacing.{class_size-low, class_size-scaled, class_size-scaled_before, class_size-rises}

-- a class holds a size and the class before it does not
least_from_before : (size class : ℕ) → class < 36 → size ≤ class_size class → (0 < class → class_size (class - 1) < size) → 0 < size → IsClassOf size class
least_from_before size class below holds before some = record {
  is_class = below;
  holds = holds;
  least = λ lower h. ⊎_elim
      (λ (lt : lower < class - 1). omega (arith, class_size-rises lower (class - 1) lt (omega arith), before (omega arith)))
      (λ (le : class - 1 ≤ lower). let same : class - 1 ≡ lower = omega arith in subst (λ c. class_size c < size) same (before (omega arith)))
      (cases_lt lower (class - 1));
}

-- up to 128 bytes
pub low_class : (size : ℕ) → 0 < size → size ≤ 128 → IsClassOf size ((size - 1) / 16)
low_class size some most =
    let class = (size - 1) / 16 in
    least_from_before size class (omega arith) (omega (arith, class_size-low class (omega arith)))
    (λ h. omega (arith, class_size-low (class - 1) (omega arith))) some

-- above 128 bytes, where k is two below the highest bit of the last byte's number
pub high_class : (size k q class : ℕ) → 5 ≤ k → k ≤ 11 → 4 ≤ q → q < 8 → 2 ^ k * q < size → size ≤ 2 ^ k * (q + 1) → class ≡ 4 * (k - 4) + q → IsClassOf size class
high_class size k q class low high least most above holds is =
    least_from_before size class (omega arith)
    (omega (arith, class_size-scaled class k q low least most is (omega arith), holds))
    (λ h. omega (arith, class_size-scaled_before (class - 1) k q low least most (omega arith) (omega arith), above))
    (omega arith)

powers : (i j : ℕ) → i ≤ j → 2 ^ i ≤ 2 ^ j
powers i j h = pow-le-pow_right (omega arith) h

-- the place of the highest bit of a number from 128 to 16383
pub top_within : (last top : ℕ) → 128 ≤ last → last < 16384 → 2 ^ top ≤ last → last < 2 * 2 ^ top → (7 ≤ top) × (top ≤ 13)
top_within last top low high at_least below = (
  ⊎_elim (λ (less : top < 7). absurd (omega (arith, powers top 6 (omega arith)))) (λ (h : 7 ≤ top). h) (cases_lt top 7),
  ⊎_elim (λ (h : top < 14). omega arith) (λ (more : 14 ≤ top). absurd (omega (arith, powers 14 top more))) (cases_lt top 14),
)

-- the two bits below the highest one, and the highest
pub top_bits : (last top : ℕ) → 2 ≤ top → 2 ^ top ≤ last → last < 2 * 2 ^ top → (4 ≤ last / 2 ^ (top - 2)) × (last / 2 ^ (top - 2) < 8)
top_bits last top some at_least below =
    let k = top - 2 in
    let e : 2 ^ top ≡ 2 ^ k * 4 = ap (λ x. 2 ^ x) (let f : top ≡ k + 2 = omega arith in f) ∙ pow-add 2 k 2 in
    (le-div 4 last (2 ^ k) (pow_pos k) (omega arith), div_below last (2 ^ k) 8 (pow_pos k) (omega arith))

-- the class of more than 128 bytes
pub class_above : (size top : ℕ) → 128 < size → size ≤ 16384 → 2 ^ top ≤ size - 1 → size - 1 < 2 * 2 ^ top →
    (4 * (top - 6) + (size - 1) / 2 ^ (top - 2) < 36) × IsClassOf size (4 * (top - 6) + (size - 1) / 2 ^ (top - 2))
class_above size top low most at_least below =
    let within = top_within (size - 1) top (omega arith) (omega arith) at_least below in
    let bits = top_bits (size - 1) top (omega arith) at_least below in
    let k = top - 2 in
    let q = (size - 1) / 2 ^ k in
    let split = shr_split (size - 1) k in
    let rest = mod_below (size - 1) (2 ^ k) (pow_pos k) in
    (omega arith, high_class size k q (4 * (top - 6) + q) (omega arith) (omega arith) bits.0 bits.1 (omega arith) (omega arith) (omega arith))
