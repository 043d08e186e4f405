-- The block at an address, by the slab that has the granule of the address.
use Rattle.std.proofs.Common.{◌≡◌, ◌≢◌, ℕ, ◌+◌, ◌-◌, ◌*◌, ◌/◌, ◌<◌, ◌≤◌, sym, ap, ◌∙◌, subst, arith, ⊎_elim}
use Rattle.std.proofs.Math.Nat.{mul-div_cancel}
use Rattle.block_supply.proofs.Common.{cases_eq, class_size, class_capacity, class_size-least, slab_block, SlabSet, class_in}
use Rattle.block_supply.specs.Supply.{IsInSlabOf, IsInNoSlabOf}
use Rattle.block_supply.specs.Kept.{IsBlockAt, IsSomeBlock, AreSlabsApart}
use Rattle.block_supply.proofs.Addresses.{block_lies}

module _ {set : SlabSet} {class at : ℕ} (apart : AreSlabsApart set) (is_class : class < 36) (some : IsSomeBlock set class at) where
  low : 16384 * some.start + 2048 ≤ at
  low = omega (arith, some.block.is)

  high : at < 16384 * some.start + 65536
  high = let lies = block_lies some.start class some.number some.block.within in omega (arith, some.block.is, lies.high, class_size-least class is_class)

  -- that slab is the block's
  pub start_found : (start other : ℕ) → IsInSlabOf (class_in set) (at / 16384) start other → start ≡ some.start
  start_found start other inside = ⊎_elim
      (λ (same : start ≡ some.start). same)
      (λ (differ : start ≢ some.start). absurd (⊎_elim
      (λ before. omega (arith, before, inside.high, low))
      (λ behind. omega (arith, behind, inside.low, high))
      (apart.each start some.start other class differ inside.slab some.block.slab)))
      (cases_eq start some.start)

  -- and there is one
  pub none_found : IsInNoSlabOf (class_in set) (at / 16384) → ⊥
  none_found outside =
      let none = outside.none some.start (omega (arith, low)) (omega (arith, high)) in
      let slab = some.block.slab in
      absurd (let never = sym none ∙ slab in cc)

  -- so its number is that of the block
  pub block_found : (start base size : ℕ) → start ≡ some.start → base ≡ 16384 * start + 2048 → size ≡ class_size class → IsBlockAt set class at start ((at - base) / size)
  block_found start base size same begins wide =
      let n = some.number in
      let offset : at - base ≡ n * class_size class = omega (arith, some.block.is, begins, same) in
      let positive : 0 < class_size class = omega (arith, class_size-least class is_class) in
      let number : (at - base) / size ≡ n = ap (λ x. x / size) offset ∙ ap (λ x. n * class_size class / x) wide ∙ mul-div_cancel n positive in
      record {
        slab = ap (class_in set) same ∙ some.block.slab;
        within = subst (λ i. i < class_capacity class) (sym number) some.block.within;
        is = some.block.is ∙ ap (λ s. (slab_block s class n).at) (sym same) ∙ ap (λ i. (slab_block start class i).at) (sym number);
      }

  pub base_below : (start base : ℕ) → start ≡ some.start → base ≡ 16384 * start + 2048 → base ≤ at
  base_below start base same begins = omega (arith, begins, same, low)
