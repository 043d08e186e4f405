-- What a malloc takes of the stacks is one of the ways of the placement.
use Rattle.std.proofs.Common.{◌≡◌, ◌≢◌, ◌==◌, ℕ, ◌<◌, ◌⊎◌, ◌↔◌, [], Option, Some, if◌then◌else◌, sym, ap, ◌∙◌, subst, arith, inl, inr, ⊎_elim}
use Rattle.block_supply.proofs.Common.{Bounds, Machine, with_key, slab_block, IsUnused, with_class, IsRefill, IsMorphRefill, IsNewRefill, IsWay, cases_eq, class_capacity, with_key-here, with_key-other, SlabBlock, class_in, stacks_of}
use Rattle.heap_model.specs.Choice.{block_view}
use Rattle.heap_model.specs.Slabs.{view_of}
use Rattle.block_supply.proofs.Takes.{no_top}
use Rattle.block_supply.proofs.Views.{AgreeOnBlocks, IsRefill-by, IsServed-by}
use Rattle.block_supply.specs.Supply.{Supply, MayBeGiven, supply_view, TookBlock, HasNoOpen}

module _ (b : Bounds) (m : Machine) (was next : Supply) (seat class : ℕ) (agree : AgreeOnBlocks (supply_view was) (block_view (view_of b m))) where
  -- a block that is there
  pub way_there : (block : SlabBlock) → TookBlock was seat class block next → IsWay b (record { machine = m; stacks = stacks_of was.stacks }) seat class (slab_block block.start class block.number).at (stacks_of next.stacks)
  way_there block took = ⊎_elim
      (λ own. inl own)
      (λ rest. inr (rest.0, ⊎_elim (λ some. inl some) (λ none. inr (none.0, inl none.1)) rest.1))
      (IsServed-by (supply_view was) (block_view (view_of b m)) agree (stacks_of was.stacks) seat class (slab_block block.start class block.number).at (stacks_of next.stacks) took.served)

  -- where no block of the class is open, a slab takes the class or is made for it
  pub way_anew : HasNoOpen was class → (at : ℕ) → IsMorphRefill b (record { machine = m; stacks = stacks_of was.stacks }) seat class at (stacks_of next.stacks) ⊎ IsNewRefill b (record { machine = m; stacks = stacks_of was.stacks }) seat class at (stacks_of next.stacks) →
      IsWay b (record { machine = m; stacks = stacks_of was.stacks }) seat class at (stacks_of next.stacks)
  way_anew none at anew = grind arith

  -- The slab at a start comes into the supply with the class, and what is open in it is what is unused.
  module _ (start number : ℕ) (mid : Supply) (classes : (s : ℕ) → class_in mid.slabs s ≡ with_key (class_in was.slabs) start (Some class) s)
      (here : (n : ℕ) → n < class_capacity class → MayBeGiven mid start n ↔ IsUnused m (slab_block start class n)) (others : (s n : ℕ) → s ≢ start → MayBeGiven mid s n ↔ MayBeGiven was s n)
      (bare : (other : ℕ) → stacks_of mid.stacks other class ≡ []) where
    -- with it the views agree still
    agree_more : AgreeOnBlocks (supply_view mid) (block_view (view_of b (with_class m start class)))
    agree_more = record {
      slab = λ s. classes s ∙ ap (λ (x : Option ℕ). if s == start then Some class else x) (agree.slab s);
      unused = λ s c n slab within. ⊎_elim
          (λ (same : s ≡ start).
          let class_is : c ≡ class = (let one = sym (classes start ∙ with_key-here (class_in was.slabs) start (Some class)) ∙ ap (class_in mid.slabs) (sym same) ∙ slab in cc) in
          let iff = here n (subst (λ k. n < class_capacity k) class_is within) in (
            λ is. subst (λ k. IsUnused (with_class m start class) (slab_block k c n)) (sym same) (subst (λ k. IsUnused (with_class m start class) (slab_block start k n)) (sym class_is) (record { each = (iff.0 (subst (λ k. MayBeGiven mid k n) same is)).each })),
            λ unused. subst (λ k. MayBeGiven mid k n) (sym same) (iff.1 (record { each = (subst (λ k. IsUnused (with_class m start class) (slab_block start k n)) class_is (subst (λ k. IsUnused (with_class m start class) (slab_block k c n)) same unused)).each })),
          ))
          (λ (differ : s ≢ start).
          let same = agree.unused s c n (sym (classes s ∙ with_key-other (class_in was.slabs) start s (Some class) differ) ∙ slab) within in (
            λ is. record { each = (same.0 ((others s n differ).0 is)).each },
            λ unused. (others s n differ).1 (same.1 (record { each = unused.each })),
          ))
          (cases_eq s start);
    }

    -- so the seat is given a block of it by a refill
    pub refill_anew : TookBlock mid seat class (record { start = start; number = number }) next → IsRefill (block_view (view_of b (with_class m start class))) (stacks_of mid.stacks) seat class (slab_block start class number).at (stacks_of next.stacks)
    refill_anew took = grind (arith, IsRefill-by, agree_more, no_top)
