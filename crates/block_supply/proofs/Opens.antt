-- Which blocks are open, by what a supply keeps.
use Rattle.std.proofs.Common.{◌≡◌, ℕ, ◌<◌, true, Some, ap, ◌∙◌, subst, inl, ⊎_elim}
use Rattle.block_supply.proofs.Common.{class_capacity, slab_block, Has, IsInNoStack, IsAvailable, class_in, is_available, stacks_of}
use Rattle.block_supply.specs.Supply.{Supply, IsStacked, supply_view}
use Rattle.block_supply.specs.Kept.{IsKept}
use Rattle.block_supply.proofs.Addresses.{one_class, slab_once}

module _ {supply : Supply} (start class number : ℕ) (slab : class_in supply.slabs start ≡ Some class) where
  -- where its address is in no stack it is not reserved
  pub not_stacked : IsInNoStack (stacks_of supply.stacks) (slab_block start class number).at → ¬ (IsStacked supply start number)
  not_stacked loose is =
      let same = one_class supply.slabs start is.class class is.slab slab in
      loose.none is.seat is.class (subst (λ k. Has (stacks_of supply.stacks is.seat is.class) (slab_block start k number).at) same is.has)

  -- by the view it is available where it is by the index
  pub available_is : IsAvailable (supply_view supply) (stacks_of supply.stacks) start class number → is_available supply.slabs start number ≡ true
  available_is is = ⊎_elim (λ here. here) (λ reserved. absurd (not_stacked is.loose reserved)) is.block.unused

module _ {supply : Supply} (kept : IsKept supply.slabs supply.stacks) (start class number : ℕ) (slab : class_in supply.slabs start ≡ Some class) (within : number < class_capacity class) where
  abbrev at : ℕ
  at = (slab_block start class number).at

  -- an address in a stack is in one of its class
  pub stacked_if : (seat c : ℕ) → Has (stacks_of supply.stacks seat c) (slab_block start class number).at → IsStacked supply start number
  stacked_if seat c has =
      let some = kept.stacked seat c at has in
      let block = some.block in
      let same = slab_once kept.apart start some.start class c number some.number (kept.known start class slab).0 (kept.known some.start c block.slab).0 slab block.slab within block.within block.is in
      let is : c ≡ class = one_class supply.slabs start c class (ap (class_in supply.slabs) same ∙ block.slab) slab in
      record { class = class; slab = slab; within = within; seat = seat; has = subst (λ k. Has (stacks_of supply.stacks seat k) at) is has }

  -- what is not reserved is in no stack
  pub loose_if : ¬ (IsStacked supply start number) → IsInNoStack (stacks_of supply.stacks) (slab_block start class number).at
  loose_if none = record { none = λ seat c has. none (stacked_if seat c has) }

  pub is_available-view : is_available supply.slabs start number ≡ true → IsAvailable (supply_view supply) (stacks_of supply.stacks) start class number
  is_available-view is = record { block = record { within = within; unused = inl is }; loose = kept.loose start number class slab is }
