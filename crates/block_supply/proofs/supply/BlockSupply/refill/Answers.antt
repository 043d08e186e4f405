use Rattle.std.proofs.Common.{◌≡◌, ℕ, List, slice_index_or, refl, sym, ap, ◌∙◌, subst}
use Rattle.block_supply.proofs.Common.{with_stack, AreRising, AreLoose, stacks_of}
use Rattle.block_supply.specs.Supply.{Supply}
use Rattle.block_supply.proofs.Refills.{numbers_within, rest_rise, rest_loose, refill_is, kept_refilled, taken_refilled}
use Rattle.block_supply.proofs.supply.BlockSupply.refill.Goals as goal

pub rest_of-requires-clause-within : goal.rest_of-requires-clause-within
rest_of-requires-clause-within c = numbers_within (record { slabs = c.self.inside.slabs; stacks = c.self.inside.caches }) c.self.invariant c.args.seat c.args.class c.in-Some.blocks c.take_lowest.new.self c.in-Some.ensures

pub refill-requires-clause-rising : goal.refill-requires-clause-rising
refill-requires-clause-rising c =
    let low = c.in-Some.ensures.lowest in
    subst AreRising (sym (c.rest_of.ensures low.first low.rest low.numbers)) (rest_rise (record { slabs = c.self.inside.slabs; stacks = c.self.inside.caches }) c.self.invariant c.args.seat c.args.class c.in-Some.blocks c.take_lowest.new.self c.in-Some.ensures)

pub refill-requires-clause-loose : goal.refill-requires-clause-loose
refill-requires-clause-loose c =
    let low = c.in-Some.ensures.lowest in
    subst (AreLoose (stacks_of c.self.inside.caches)) (sym (c.rest_of.ensures low.first low.rest low.numbers)) (rest_loose (record { slabs = c.self.inside.slabs; stacks = c.self.inside.caches }) c.self.invariant c.args.seat c.args.class c.in-Some.blocks c.take_lowest.new.self c.in-Some.ensures)

pub invariant_of-self : goal.invariant_of-self
invariant_of-self c =
    let low = c.in-Some.ensures.lowest in
    let filled = c.refill.ensures.stacks ∙ ap (with_stack (stacks_of c.self.inside.caches) c.args.seat c.args.class) (c.rest_of.ensures low.first low.rest low.numbers) in
    let bare = ap (λ (s : Supply). stacks_of s.stacks c.args.seat c.args.class) c.self.view_is ∙ c.requires.empty in
    kept_refilled (record { slabs = c.self.inside.slabs; stacks = c.self.inside.caches }) c.self.invariant c.args.seat c.args.class c.in-Some.blocks c.take_lowest.new.self c.in-Some.ensures c.refill.new.self c.refill.ensures.distinct bare filled

pub returns-in-Some : goal.returns-in-Some
returns-in-Some c =
    let low = c.in-Some.ensures.lowest in
    let filled = c.refill.ensures.stacks ∙ ap (with_stack (stacks_of c.self.inside.caches) c.args.seat c.args.class) (c.rest_of.ensures low.first low.rest low.numbers) in
    let bare = ap (λ (s : Supply). stacks_of s.stacks c.args.seat c.args.class) c.self.view_is ∙ c.requires.empty in
    let number : slice_index_or c.deref.result.now 0 0 ≡ low.first = ap (λ (xs : List ℕ). slice_index_or xs 0 0) (c.deref.ensures.0 ∙ low.numbers) in
    rw (sym c.self.view_is) (record {
      taken = taken_refilled (record { slabs = c.self.inside.slabs; stacks = c.self.inside.caches }) c.self.invariant c.args.seat c.args.class c.in-Some.blocks c.take_lowest.new.self c.in-Some.ensures c.refill.new.self c.refill.ensures.distinct bare filled
          (record { start = c.in-Some.blocks.start; number = slice_index_or c.deref.result.now 0 0 }) refl number;
      refill = rw number (refill_is (record { slabs = c.self.inside.slabs; stacks = c.self.inside.caches }) c.self.invariant c.args.seat c.args.class c.in-Some.blocks c.take_lowest.new.self c.in-Some.ensures (stacks_of c.refill.new.self) filled);
    })
