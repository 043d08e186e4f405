-- A block is taken for a seat, by the way that it comes.
use Rattle.std.proofs.Common.{◌≡◌, ℕ, true≢false, List, [], ◌∷◌, Option, Some, None, MatchOption, sym, ap, ◌∙◌, subst, inl, inr, ⊎_elim}
use Rattle.block_supply.proofs.Common.{Stacks, Has, HasTop, HasAvailable, SlabBlock, slab_block, class_in, HasNoBlock, stacks_of}
use Rattle.block_supply.specs.Supply.{Supply, IsStacked, MayBeGiven, supply_view, TookBlock, HasNoOpen, HadNoOpen}
use Rattle.block_supply.specs.Kept.{TookTop, HadNoTop, TookLowest, HadNoAvailable, TookFirst, HadNoStack}
use Rattle.block_supply.proofs.Addresses.{one_class}
use Rattle.block_supply.proofs.Opens.{available_is}

-- an empty stack has no top
pub no_top : (stacks : Stacks) (seat class : ℕ) → stacks seat class ≡ [] → ¬ (HasTop stacks seat class)
no_top stacks seat class empty top = let is : [] ≡ top.top ∷ top.rest = sym empty ∙ top.is in absurd (cc)

-- by the view no block is available where the index has none
pub none_available : (supply : Supply) (class : ℕ) → HasNoBlock supply.slabs class → ¬ (HasAvailable (supply_view supply) (stacks_of supply.stacks) class)
none_available supply class used has = true≢false (sym (available_is has.start class has.number has.slab has.available) ∙ used.none has.start has.number has.slab)

-- where none is open, no block of a slab of the class is
pub none_open : (supply : Supply) (class : ℕ) → HasNoOpen supply class → (start number : ℕ) → class_in supply.slabs start ≡ Some class → ¬ (MayBeGiven supply start number)
none_open supply class none start number slab is = ⊎_elim
    (λ available. true≢false (sym available ∙ none.used.none start number slab))
    (λ (r : IsStacked supply start number). subst (λ (xs : List ℕ). Has xs (slab_block start r.class number).at) (ap (stacks_of supply.stacks r.seat) (one_class supply.slabs start r.class class r.slab slab) ∙ none.empty r.seat) r.has)
    is

-- the seat's own stack gave it
pub took_top : (old new : Supply) (seat class : ℕ) (block : SlabBlock) → TookTop old seat class block new → TookBlock old seat class block new
took_top old new seat class block took = record {
  slab = took.taken.slab;
  within = took.taken.within;
  was_open = took.taken.was_open;
  without = took.taken.without;
  served = inl (took.gave.top, took.gave.pop);
}

-- a refill gave it
pub took_lowest : (old mid new : Supply) (seat class : ℕ) (block : SlabBlock) → HadNoTop old seat class mid → TookLowest mid seat class block new → TookBlock old seat class block new
took_lowest old mid new seat class block none took = subst (λ (s : Supply). TookBlock s seat class block new) none.same (record {
  slab = took.taken.slab;
  within = took.taken.within;
  was_open = took.taken.was_open;
  without = took.taken.without;
  served = inr (
    no_top (stacks_of mid.stacks) seat class (ap (λ (s : Supply). stacks_of s.stacks seat class) none.same ∙ none.empty),
    inl (
      record {
        start = took.refill.start;
        slab = took.refill.slab;
        number = took.refill.number;
        available = took.refill.taken.1.passes;
      },
      took.refill,
    ),
  );
})

-- another stack gave it, or none
pub took_last : (old mid last new : Supply) (seat class : ℕ) (result : Option SlabBlock) → HadNoTop old seat class mid → HadNoAvailable mid class last → MatchOption result (HadNoStack last class new) (λ block. TookFirst last class block new) →
    MatchOption result (HadNoOpen old class new) (λ block. TookBlock old seat class block new)
took_last old mid last new seat class None top used had = subst (λ (s : Supply). HadNoOpen s class new) (used.same ∙ top.same) (record {
  none = record { used = subst (λ (s : Supply). HasNoBlock s.slabs class) (sym used.same) used.used; empty = had.empty };
  same = had.same;
})
took_last old mid last new seat class (Some block) top used took = subst (λ (s : Supply). TookBlock s seat class block new) (used.same ∙ top.same) (record {
  slab = took.taken.slab;
  within = took.taken.within;
  was_open = took.taken.was_open;
  without = took.taken.without;
  served = inr (
    no_top (stacks_of last.stacks) seat class (ap (λ (s : Supply). stacks_of s.stacks seat class) (used.same ∙ top.same) ∙ top.empty),
    inr (none_available last class (subst (λ (s : Supply). HasNoBlock s.slabs class) (sym used.same) used.used), (took.gave.stacked, took.gave.pop)),
  );
})
