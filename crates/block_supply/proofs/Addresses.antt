-- Where blocks of slabs begin: no two of them at one address.
use Rattle.std.proofs.Common.{◌≡◌, ◌≢◌, ◌⊎◌, ℕ, ◌+◌, ◌*◌, ◌<◌, ◌≤◌, Some, refl, sym, ◌∙◌, subst, arith, ⊎_elim}
use Rattle.block_supply.proofs.Common.{cases_eq, cases_lt, class_size, class_capacity, class_size-least, slab_block, LiesIn, SlabSet, class_in, IsBlock}
use native.Mathlib.Nat.{mul-le-mul_right}
use Rattle.heap_model.proofs.Slabbing.{LiesIn-block}
use Rattle.block_supply.specs.Kept.{IsBlockAt, AreSlabsApart}

-- a block lies in its slab
pub block_lies : (s c n : ℕ) → n < class_capacity c → LiesIn s (slab_block s c n)
block_lies s c n within = LiesIn-block s c (slab_block s c n) (record { number = n; within = within; is = refl })

-- slabs with the same value have the same class
pub one_class : (set : SlabSet) (s c d : ℕ) → class_in set s ≡ Some c → class_in set s ≡ Some d → c ≡ d
one_class set s c d one two = let same = sym one ∙ two in cc

-- a block's number is below the capacity of its slab's class
pub same_within : (set : SlabSet) (s n c : ℕ) → class_in set s ≡ Some c → IsBlock set s n → n < class_capacity c
same_within set s n c slab block = subst (λ k. n < class_capacity k) (one_class set s block.class c block.slab slab) block.below

-- rows of one size begin at different places
pub row_once : (size n m : ℕ) → 0 < size → n * size ≡ m * size → n ≡ m
row_once size n m some same = ⊎_elim
    (λ (less : n < m). let rows : (n + 1) * size ≤ m * size = mul-le-mul_right size (omega (arith, less)) in let step : (n + 1) * size ≡ n * size + size = omega arith in absurd (omega (arith, rows, step, same, some)))
    (λ (from : m ≤ n). ⊎_elim
    (λ (less : m < n). let rows : (m + 1) * size ≤ n * size = mul-le-mul_right size (omega (arith, less)) in let step : (m + 1) * size ≡ m * size + size = omega arith in absurd (omega (arith, rows, step, same, some)))
    (λ (also : n ≤ m). omega (arith, from, also))
    (cases_lt m n))
    (cases_lt n m)

module _ {set : SlabSet} (apart : AreSlabsApart set) where
  -- one address lies in one slab
  pub slab_once : (s t c d n m : ℕ) → c < 36 → d < 36 → class_in set s ≡ Some c → class_in set t ≡ Some d → n < class_capacity c → m < class_capacity d → (slab_block s c n).at ≡ (slab_block t d m).at → s ≡ t
  slab_once s t c d n m is_class is_other slab other within also same = ⊎_elim
      (λ (is : s ≡ t). is)
      (λ (differ : s ≢ t).
      let one = block_lies s c n within in
      let two = block_lies t d m also in
      absurd (⊎_elim
      (λ before. omega (arith, before, one.high, two.low, same, class_size-least c is_class))
      (λ behind. omega (arith, behind, two.high, one.low, same, class_size-least d is_other))
      (apart.each s t c d differ slab other)))
      (cases_eq s t)

  -- and is that of one block
  pub block_once : (class at s t n m : ℕ) → class < 36 → IsBlockAt set class at s n → IsBlockAt set class at t m → (s ≡ t) × (n ≡ m)
  block_once class at s t n m is_class one two =
      let slab = slab_once s t class class n m is_class is_class one.slab two.slab one.within two.within (sym one.is ∙ two.is) in
      (slab, row_once (class_size class) n m (omega (arith, class_size-least class is_class)) (omega (arith, one.is, two.is, slab)))

  -- so other blocks have other addresses
  pub address_differs : (class at s t n m : ℕ) → class < 36 → IsBlockAt set class at s n → class_in set t ≡ Some class → m < class_capacity class → (t ≢ s) ⊎ (m ≢ n) → (slab_block t class m).at ≢ at
  address_differs class at s t n m is_class block slab within either same =
      let are = block_once class at s t n m is_class block (record { slab = slab; within = within; is = sym same }) in
      ⊎_elim (λ differ. differ (sym are.0)) (λ differ. differ (sym are.1)) either
