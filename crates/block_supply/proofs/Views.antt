-- A seat is served the same by views that say the same of slabs and unused blocks.
use Rattle.std.proofs.Common.{◌≡◌, ◌↔◌, ℕ, ◌<◌, ◌∷◌, Some, sym, ◌∙◌, ⊎_elim, inl, inr}
use Rattle.block_supply.proofs.Common.{class_capacity, Stacks, IsAvailable, HasAvailable, IsRefill, AreLowest-same}
use Rattle.heap_model.specs.Choice.{BlockView}
use Rattle.block_supply.specs.Supply.{IsServed}

-- two views say the same of slabs, and of which of their blocks are unused
pub record AgreeOnBlocks (v w : BlockView) : Type 0 where
  pub slab : (s : ℕ) → v.slab s ≡ w.slab s
  pub unused : (s c number : ℕ) → v.slab s ≡ Some c → number < class_capacity c → v.unused s c number ↔ w.unused s c number

pub AgreeOnBlocks-back : (v w : BlockView) → AgreeOnBlocks v w → AgreeOnBlocks w v
AgreeOnBlocks-back v w agree = record { slab = λ s. sym (agree.slab s); unused = λ s c number slab within. let same = agree.unused s c number (agree.slab s ∙ slab) within in (same.1, same.0) }

available_by : (v w : BlockView) → AgreeOnBlocks v w → (stacks : Stacks) (s c number : ℕ) → v.slab s ≡ Some c → IsAvailable v stacks s c number → IsAvailable w stacks s c number
available_by v w agree stacks s c number slab is = record { block = record { within = is.block.within; unused = (agree.unused s c number slab is.block.within).0 is.block.unused }; loose = is.loose }

pub HasAvailable-by : (v w : BlockView) → AgreeOnBlocks v w → (stacks : Stacks) (c : ℕ) → HasAvailable v stacks c → HasAvailable w stacks c
HasAvailable-by v w agree stacks c has = record { start = has.start; slab = sym (agree.slab has.start) ∙ has.slab; number = has.number; available = available_by v w agree stacks has.start c has.number has.slab has.available }

pub IsRefill-by : (v w : BlockView) → AgreeOnBlocks v w → (stacks : Stacks) (seat class at : ℕ) (after : Stacks) → IsRefill v stacks seat class at after → IsRefill w stacks seat class at after
IsRefill-by v w agree stacks seat class at after refill =
    let slab = sym (agree.slab refill.start) ∙ refill.slab in
    record {
      start = refill.start;
      slab = slab;
      lowest = λ other number less here is. refill.lowest other number less (agree.slab other ∙ here) (available_by w v (AgreeOnBlocks-back v w agree) stacks other class number here is);
      number = refill.number;
      rest = refill.rest;
      taken = AreLowest-same (IsAvailable v stacks refill.start class) (IsAvailable w stacks refill.start class) 0 8 (refill.number ∷ refill.rest)
          (λ n. (available_by v w agree stacks refill.start class n refill.slab, available_by w v (AgreeOnBlocks-back v w agree) stacks refill.start class n slab)) refill.taken;
      is = refill.is;
      after_is = refill.after_is;
    }

pub IsServed-by : (v w : BlockView) → AgreeOnBlocks v w → (stacks : Stacks) (seat class at : ℕ) (after : Stacks) → IsServed v stacks seat class at after → IsServed w stacks seat class at after
IsServed-by v w agree stacks seat class at after served = ⊎_elim
    (λ own. inl own)
    (λ rest. inr (
      rest.0,
      ⊎_elim
          (λ some. inl (HasAvailable-by v w agree stacks class some.0, IsRefill-by v w agree stacks seat class at after some.1))
          (λ none. inr (λ has. none.0 (HasAvailable-by w v (AgreeOnBlocks-back v w agree) stacks class has), none.1))
          rest.1,
    ))
    served
