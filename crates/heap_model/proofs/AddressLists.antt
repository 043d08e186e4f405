-- Lists of addresses and of numbers: what is left of one that is filtered, which differ, and which rise.
use Rattle.std.proofs.Common.{◌≡◌, ℕ, ◌+◌, ◌-◌, ◌*◌, ◌<◌, ◌≤◌, ◌⊎◌, ⊎_elim, inl, inr, Bool, true, false, cond, List, [], ◌∷◌, length, refl, sym, ap, ◌∙◌, subst, arith}
use Rattle.std.proofs.lemmas.Bool.{true≢false}
use Rattle.std.specs.List.{filter}
use native.Mathlib.Nat.{mul-le-mul_right}
use Rattle.size_classes.specs.Classes.{class_size}
use Rattle.heap_model.specs.Machine.{slab_block}
use Rattle.heap_model.specs.Placement.{Has, AllDiffer, AreRising, AreLowest, addresses}

-- what passes

kept_has : (passes : Bool) (x : ℕ) (xs : List ℕ) (at : ℕ) → Has xs at → Has (cond passes (x ∷ xs) xs) at
kept_has true x xs at has = inr has
kept_has false x xs at has = has

kept_top : (passes : Bool) (x : ℕ) (xs : List ℕ) → passes ≡ true → Has (cond passes (x ∷ xs) xs) x
kept_top true x xs is = inl refl
kept_top false x xs is = absurd (true≢false (sym is))

-- an address that passes stays
pub Has-passing : (p : ℕ → Bool) (xs : List ℕ) (at : ℕ) → Has xs at → p at ≡ true → Has (filter p xs) at
Has-passing p [] at has passes = absurd has
Has-passing p (x ∷ xs) at has passes = ⊎_elim
    (λ (is : at ≡ x). subst (λ a. Has (cond (p x) (x ∷ filter p xs) (filter p xs)) a) (sym is) (kept_top (p x) x (filter p xs) (ap p (sym is) ∙ passes)))
    (λ (behind : Has xs at). kept_has (p x) x (filter p xs) at (Has-passing p xs at behind passes))
    has

left_is : (passes : Bool) (x : ℕ) (xs : List ℕ) (at : ℕ) → Has (cond passes (x ∷ xs) xs) at → ((at ≡ x) × (passes ≡ true)) ⊎ Has xs at
left_is true x xs at has = ⊎_elim (λ is. inl (is, refl)) (λ behind. inr behind) has
left_is false x xs at has = inr has

-- one that stayed was there, and passes
pub Has-filter : (p : ℕ → Bool) (xs : List ℕ) (at : ℕ) → Has (filter p xs) at → Has xs at × (p at ≡ true)
Has-filter p [] at has = absurd has
Has-filter p (x ∷ xs) at has = ⊎_elim
    (λ here. (inl here.0, ap p here.0 ∙ here.1))
    (λ behind. let rest = Has-filter p xs at behind in (inr rest.0, rest.1))
    (left_is (p x) x (filter p xs) at has)

AllDiffer_left : (stays : Bool) (x : ℕ) (xs : List ℕ) → ¬ (Has xs x) → AllDiffer xs → AllDiffer (cond stays (x ∷ xs) xs)
AllDiffer_left true x xs apart differ = (apart, differ)
AllDiffer_left false x xs apart differ = differ

-- those that stayed differ where all did
pub AllDiffer-filter : (p : ℕ → Bool) (xs : List ℕ) → AllDiffer xs → AllDiffer (filter p xs)
AllDiffer-filter p [] differ = differ
AllDiffer-filter p (x ∷ xs) differ = AllDiffer_left (p x) x (filter p xs) (λ has. differ.0 (Has-filter p xs x has).0) (AllDiffer-filter p xs differ.1)

length_left : (stays : Bool) (x : ℕ) (xs : List ℕ) → length (cond stays (x ∷ xs) xs) ≤ length xs + 1
length_left true x xs = omega arith
length_left false x xs = omega arith

-- and they are no more
pub length-filter : (p : ℕ → Bool) (xs : List ℕ) → length (filter p xs) ≤ length xs
length-filter p [] = omega arith
length-filter p (x ∷ xs) = omega (arith, length_left (p x) x (filter p xs), length-filter p xs)

-- addresses that rise differ
pub AllDiffer-rising : (xs : List ℕ) → AreRising xs → AllDiffer xs
AllDiffer-rising [] rising = tt
AllDiffer-rising (x ∷ xs) rising = ((λ has. absurd (let before : x < x = rising.0 x has in omega arith)), AllDiffer-rising xs rising.1)

-- addresses of blocks

pub address_has : (s c : ℕ) (numbers : List ℕ) (n : ℕ) → Has numbers n → Has (addresses s c numbers) (slab_block s c n).at
address_has s c [] n has = absurd has
address_has s c (m ∷ numbers) n has = ⊎_elim (λ is. inl (ap (λ i. (slab_block s c i).at) is)) (λ behind. inr (address_has s c numbers n behind)) has

-- the number of a block of which a list has the address
pub record HasNumber (s c at : ℕ) (numbers : List ℕ) : Type 0 where
  pub number : ℕ
  pub has : Has numbers number
  pub is : at ≡ (slab_block s c number).at

pub has_address : (s c : ℕ) (numbers : List ℕ) (at : ℕ) → Has (addresses s c numbers) at → HasNumber s c at numbers
has_address s c [] at has = absurd has
has_address s c (m ∷ numbers) at has = ⊎_elim
    (λ is. record { number = m; has = inl refl; is = is })
    (λ behind. let rest = has_address s c numbers at behind in record { number = rest.number; has = inr rest.has; is = rest.is })
    has

-- the lowest numbers pass, none is below the first that may be, and they rise

pub lowest_passes : (P : ℕ → Type 0) (low most : ℕ) (numbers : List ℕ) (n : ℕ) → AreLowest P low most numbers → Has numbers n → P n × (low ≤ n)
lowest_passes P low most [] n lowest has = absurd has
lowest_passes P low most (m ∷ numbers) n lowest has = ⊎_elim
    (λ is. (subst P (sym is) lowest.1.passes, omega (arith, is, lowest.1.from)))
    (λ behind. let rest = lowest_passes P (m + 1) (most - 1) numbers n lowest.2 behind in (rest.0, omega (arith, rest.1, lowest.1.from)))
    has

pub addresses_rise : (P : ℕ → Type 0) (low most s c : ℕ) (numbers : List ℕ) → 0 < class_size c → AreLowest P low most numbers → AreRising (addresses s c numbers)
addresses_rise P low most s c [] some lowest = tt
addresses_rise P low most s c (m ∷ numbers) some lowest = (
  λ other has.
      let it = has_address s c numbers other has in
      let above = (lowest_passes P (m + 1) (most - 1) numbers it.number lowest.2 it.has).1 in
      let rows : (m + 1) * class_size c ≤ it.number * class_size c = mul-le-mul_right (class_size c) above in
      let step : (m + 1) * class_size c ≡ m * class_size c + class_size c = omega arith in
      omega (arith, rows, step, some, it.is),
  addresses_rise P (m + 1) (most - 1) s c numbers some lowest.2,
)

-- they are no more than may be
pub lowest_few : (P : ℕ → Type 0) (low most s c : ℕ) (numbers : List ℕ) → AreLowest P low most numbers → length (addresses s c numbers) ≤ most
lowest_few P low most s c [] lowest = omega arith
lowest_few P low most s c (m ∷ numbers) lowest = omega (arith, lowest.0, lowest_few P (m + 1) (most - 1) s c numbers lowest.2)
