-- How the sizes of the classes are spaced. Each rule is a test that is computed at every class, and a lemma that turns
-- the test into the rule.
use Rattle.std.proofs.Common.{◌≡◌, ◌<◌, ◌≤◌, ◌+◌, ◌-◌, ◌*◌, ◌/◌, ◌%◌, ◌^◌, ◌&&◌, ⊎_elim, ℕ, zero, suc, Bool, true, eqb, ltb, refl, ap, sym, ◌∙◌, subst, arith}
use Rattle.std.proofs.Math.Nat.{mod-eq_of_lt}
use Rattle.std.proofs.lemmas.Bool.{and_parts, eqb-true, ltb-true, cases_lt}
use Rattle.size_classes.specs.Classes.{sizes, class_size, IsSpaced}

-- a test is passed by each number below n
all_below : (ℕ → Bool) → ℕ → Bool
all_below test zero = true
all_below test (suc n) = test n && all_below test n

-- what each number below n passes, one of them passes
passed : (test : ℕ → Bool) (n k : ℕ) → all_below test n ≡ true → k < n → test k ≡ true
unfolding all_below
passed test zero k all below = absurd (omega arith)
passed test (suc n) k all below =
    let parts = and_parts (test n) (all_below test n) all in
    ⊎_elim
    (λ (lower : k < n). passed test n k parts.1 lower)
    (λ (last : n ≤ k). let same : n ≡ k = omega arith in ap test (sym same) ∙ parts.0)
    (cases_lt k n)

is_low : ℕ → Bool
is_low class = eqb (class_size class) (16 * (class + 1))

is_doubled : ℕ → Bool
is_doubled n = eqb (class_size (n + 8)) (2 * class_size (n + 4))

is_rising : ℕ → Bool
is_rising class = ltb (class_size class) (class_size (class + 1))

is_aligned : ℕ → Bool
is_aligned class = eqb (class_size class % 16) 0

-- each size of the doublings, and the one before it
is_scaled : ℕ → Bool
is_scaled n = eqb (class_size (n + 8)) (2 ^ (n / 4 + 5) * (n % 4 + 5)) && eqb (class_size (n + 7)) (2 ^ (n / 4 + 5) * (n % 4 + 4))

-- what is computed of the table of sizes: each test at every class that it speaks of, and both ends
record Computed : Type 0 where
  low : all_below is_low 8 ≡ true
  doubled : all_below is_doubled 28 ≡ true
  rising : all_below is_rising 35 ≡ true
  aligned : all_below is_aligned 36 ≡ true
  scaled : all_below is_scaled 28 ≡ true
  first : class_size 0 ≡ 16
  last : class_size 35 ≡ 16384

computed : Computed
unfolding all_below is_low is_doubled is_rising is_aligned is_scaled class_size sizes
computed = record { low = refl; doubled = refl; rising = refl; aligned = refl; scaled = refl; first = refl; last = refl }

pub class_size-low : (class : ℕ) → class < 8 → class_size class ≡ 16 * (class + 1)
unfolding is_low
class_size-low class low = eqb-true (class_size class) (16 * (class + 1)) (passed is_low 8 class computed.low low)

pub class_size-doubled : (class : ℕ) → 8 ≤ class → class < 36 → class_size class ≡ 2 * class_size (class - 4)
unfolding is_doubled
class_size-doubled class high below =
    let e : class - 8 + 8 ≡ class = omega arith in
    let f : class - 8 + 4 ≡ class - 4 = omega arith in
    ap class_size (sym e)
    ∙ eqb-true (class_size (class - 8 + 8)) (2 * class_size (class - 8 + 4)) (passed is_doubled 28 (class - 8) computed.doubled (omega arith))
    ∙ ap (λ k. 2 * class_size k) f

pub class_size-aligned : (class : ℕ) → class < 36 → class_size class % 16 ≡ 0
unfolding is_aligned
class_size-aligned class below = eqb-true (class_size class % 16) 0 (passed is_aligned 36 class computed.aligned below)

-- class `4 * (k - 4) + q` of the doublings, where q is from 4 to 7
pub class_size-scaled : (class k q : ℕ) → 5 ≤ k → 4 ≤ q → q < 8 → class ≡ 4 * (k - 4) + q → class < 36 → class_size class ≡ 2 ^ k * (q + 1)
unfolding is_scaled
class_size-scaled class k q low least most is below =
    let n = class - 8 in
    let e : n + 8 ≡ class = omega arith in
    let row : n / 4 + 5 ≡ k = omega arith in
    let column : n % 4 + 5 ≡ q + 1 = omega arith in
    let parts = and_parts (eqb (class_size (n + 8)) (2 ^ (n / 4 + 5) * (n % 4 + 5))) (eqb (class_size (n + 7)) (2 ^ (n / 4 + 5) * (n % 4 + 4))) (passed is_scaled 28 n computed.scaled (omega arith)) in
    ap class_size (sym e) ∙ eqb-true (class_size (n + 8)) (2 ^ (n / 4 + 5) * (n % 4 + 5)) parts.0
    ∙ ap (λ x. 2 ^ x * (n % 4 + 5)) row ∙ ap (λ x. 2 ^ k * x) column

-- the class before that one
pub class_size-scaled_before : (class k q : ℕ) → 5 ≤ k → 4 ≤ q → q < 8 → class + 1 ≡ 4 * (k - 4) + q → class < 35 → class_size class ≡ 2 ^ k * q
unfolding is_scaled
class_size-scaled_before class k q low least most is below =
    let n = class - 7 in
    let e : n + 7 ≡ class = omega arith in
    let row : n / 4 + 5 ≡ k = omega arith in
    let column : n % 4 + 4 ≡ q = omega arith in
    let parts = and_parts (eqb (class_size (n + 8)) (2 ^ (n / 4 + 5) * (n % 4 + 5))) (eqb (class_size (n + 7)) (2 ^ (n / 4 + 5) * (n % 4 + 4))) (passed is_scaled 28 n computed.scaled (omega arith)) in
    ap class_size (sym e) ∙ eqb-true (class_size (n + 7)) (2 ^ (n / 4 + 5) * (n % 4 + 4)) parts.1
    ∙ ap (λ x. 2 ^ x * (n % 4 + 4)) row ∙ ap (λ x. 2 ^ k * x) column

next_rises : (class : ℕ) → class < 35 → class_size class < class_size (class + 1)
unfolding is_rising
next_rises class below = ltb-true (class_size class) (class_size (class + 1)) (passed is_rising 35 class computed.rising below)

-- the sizes rise with the class
pub class_size-rises : (lower class : ℕ) → lower < class → class < 36 → class_size lower < class_size class
class_size-rises lower zero below within = absurd (omega arith)
class_size-rises lower (suc class) below within =
    let e : class + 1 ≡ suc class = omega arith in
    let step : class_size class < class_size (suc class) = subst (λ c. class_size class < class_size c) e (next_rises class (omega arith)) in
    ⊎_elim
    (λ (lt : lower < class). omega (arith, class_size-rises lower class lt (omega arith), step))
    (λ (le : class ≤ lower). let same : class ≡ lower = omega arith in subst (λ c. class_size c < class_size (suc class)) same step)
    (cases_lt lower class)

pub class_size-least : (class : ℕ) → class < 36 → 16 ≤ class_size class
class_size-least class below = ⊎_elim
    (λ (some : 0 < class). omega (arith, class_size-rises 0 class some below, computed.first))
    (λ (none : class ≤ 0). let same : 0 ≡ class = omega arith in omega (arith, ap class_size same, computed.first))
    (cases_lt 0 class)

pub class_size-most : (class : ℕ) → class < 36 → class_size class ≤ 16384
class_size-most class below = ⊎_elim
    (λ (lower : class < 35). omega (arith, class_size-rises class 35 lower (omega arith), computed.last))
    (λ (top : 35 ≤ class). let same : class ≡ 35 = omega arith in omega (arith, ap class_size same, computed.last))
    (cases_lt class 35)

-- all of it
pub spaced : (class size : ℕ) → class < 36 → size ≡ class_size class → IsSpaced class size
spaced class size below is = record {
  low = λ low. is ∙ class_size-low class low;
  doubled = λ high. is ∙ class_size-doubled class high below;
  rising = λ lower h. subst (λ s. class_size lower < s) (sym is) (class_size-rises lower class h below);
  aligned = ap (λ s. s % 16) is ∙ class_size-aligned class below;
  least = omega (arith, class_size-least class below, is);
  most = omega (arith, class_size-most class below, is);
}

-- a size of the doublings as the shift that makes it
pub class_size-shifted : (class five : ℕ) → 8 ≤ class → class < 36 → five ≡ class % 4 → (5 + five) * 2 ^ (class / 4 + 3) % 4294967296 ≡ class_size class
class_size-shifted class five high below is =
    let k = class / 4 + 3 in
    let size : class_size class ≡ 2 ^ k * (4 + class % 4 + 1) = class_size-scaled class k (4 + class % 4) (omega arith) (omega arith) (omega arith) (omega arith) below in
    let same : (5 + five) * 2 ^ k ≡ class_size class = omega (arith, size, ap (λ x. (5 + x) * 2 ^ k) is) in
    ap (λ x. x % 4294967296) same ∙ mod-eq_of_lt (omega (arith, class_size-most class below))
