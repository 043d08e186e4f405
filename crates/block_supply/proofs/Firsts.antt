-- Where no block of a class was open and a slab of it came, a seat is given a block of that slab; of one that has all of its
-- blocks it is the first.
use Rattle.std.proofs.Common.{◌≡◌, ◌≢◌, ℕ, zero, suc, ◌*◌, ◌<◌, ◌≤◌, [], Some, refl, sym, ap, ◌∙◌, subst, arith, ⊎_elim}
use Rattle.block_supply.proofs.Common.{cases_eq, class_size, class_capacity, class_size-least, IsAvailable, with_key-other, SlabBlock, class_in, stacks_of}
use Rattle.block_supply.specs.Supply.{Supply, MayBeGiven, supply_view, HasSlabMore, TookBlock, HasNoOpen}
use Rattle.block_supply.proofs.Addresses.{row_once}
use Rattle.block_supply.proofs.Takes.{no_top, none_open}

-- an open block of the class is one of that slab
pub in_new : {old mid : Supply} {start class : ℕ} {Opens : ℕ → Type 0} → ((s i : ℕ) → class_in old.slabs s ≡ Some class → ¬ (MayBeGiven old s i)) → HasSlabMore old mid start class Opens → (s i : ℕ) → class_in mid.slabs s ≡ Some class → MayBeGiven mid s i → s ≡ start
in_new {old} {mid} {start} {class} {Opens} none more s i slab is = ⊎_elim
    (λ (same : s ≡ start). same)
    (λ (differ : s ≢ start). absurd (none s i (sym (more.classes s ∙ with_key-other (class_in old.slabs) start s (Some class) differ) ∙ slab) ((more.others s i differ).0 is)))
    (cases_eq s start)

module _ (old mid new : Supply) (seat start class : ℕ) (none : HasNoOpen old class) (more : HasSlabMore old mid start class (λ i. i < class_capacity class)) (is_class : class < 36) (some : 0 < class_capacity class) where
  bare : (other : ℕ) → stacks_of mid.stacks other class ≡ []
  bare other = ap (λ t. stacks_of t other class) more.stacks ∙ none.empty other

  first_open : IsAvailable (supply_view mid) (stacks_of mid.stacks) start class 0
  first_open = record { block = record { within = some; unused = (more.here 0).1 some }; loose = more.loose 0 some }

  -- the lowest number is that of the first block
  lowest_is : (n : ℕ) → ((lower : ℕ) → 0 ≤ lower → lower < n → ¬ (IsAvailable (supply_view mid) (stacks_of mid.stacks) start class lower)) → n ≡ 0
  lowest_is zero first = refl
  lowest_is (suc n) first = absurd (first 0 (omega arith) (omega arith) first_open)

  pub first_of : (block : SlabBlock) → TookBlock mid seat class block new → (block.start ≡ start) × (block.number ≡ 0)
  first_of block took =
      let here = in_new (none_open old class none) more block.start block.number took.slab took.was_open in (
        here,
        ⊎_elim
            (λ own. absurd (no_top (stacks_of mid.stacks) seat class (bare seat) own.0))
            (λ rest. ⊎_elim
            (λ filled.
            let refill = filled.1 in
            let there = in_new (none_open old class none) more refill.start refill.number refill.slab refill.taken.1.passes.block.unused in
            let lowest = lowest_is refill.number (λ lower from less available. refill.taken.1.first lower from less (subst (λ s. IsAvailable (supply_view mid) (stacks_of mid.stacks) s class lower) (sym there) available)) in
            let offset : refill.number * class_size class ≡ 0 * class_size class = ap (λ n. n * class_size class) lowest in
            row_once (class_size class) block.number 0 (omega (arith, class_size-least class is_class)) (omega (arith, refill.is, here, there, offset)))
            (λ last. absurd (no_top (stacks_of mid.stacks) last.1.0.seat class (bare last.1.0.seat) last.1.0.first.top))
            rest.1)
            took.served,
      )
