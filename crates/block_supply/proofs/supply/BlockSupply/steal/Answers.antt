use Rattle.std.proofs.Common.{ℕ, refl, sym, subst}
use Rattle.thread_cache.specs.Stacks.{StackTable, stacks_of, GaveFirst}
use Rattle.block_supply.specs.Kept.{IsKept}
use Rattle.block_supply.proofs.Pops.{had_top, kept_popped, taken_popped}
use Rattle.block_supply.proofs.supply.BlockSupply.steal.Goals as goal
use Rattle.block_supply.proofs.supply.BlockSupply.steal.Goals.{in-Some, in-None}

pub block_at-requires-clause-block : goal.block_at-requires-clause-block
block_at-requires-clause-block c =
    let first = c.in-Some.ensures.first in
    c.self.invariant.stacked first.stacked.seat c.args.class c.in-Some.at
    (had_top (stacks_of c.self.inside.caches) (stacks_of c.steal.new.self) c.self.invariant.distinct first.stacked.seat c.args.class c.in-Some.at (record { top = first.stacked.first.top; pop = first.pop }))

pub invariant_of-self : goal.invariant_of-self
invariant_of-self c = elim c.match-steal.branch [
  | in-Some w ↦ kept_popped (record { slabs = c.self.inside.slabs; stacks = c.self.inside.caches }) (record { slabs = c.self.inside.slabs; stacks = c.steal.new.self })
      c.self.invariant refl w.in-Some.ensures.distinct w.in-Some.ensures.first.stacked.seat c.args.class w.in-Some.at w.block_at.result.start w.block_at.result.number (record { top = w.in-Some.ensures.first.stacked.first.top; pop = w.in-Some.ensures.first.pop }) w.block_at.ensures
  | in-None w ↦ subst (λ (t : StackTable). IsKept c.self.inside.slabs t) (sym w.in-None.ensures.first.same) c.self.invariant
]

pub returns : goal.returns
returns c = rw (sym c.self.view_is) (elim c.match-steal.branch [
  | in-Some w ↦
      let gave = w.in-Some.ensures.first in
      rw w.result-is (record {
        taken = taken_popped (record { slabs = c.self.inside.slabs; stacks = c.self.inside.caches }) (record { slabs = c.self.inside.slabs; stacks = c.steal.new.self })
            c.self.invariant refl w.in-Some.ensures.distinct gave.stacked.seat c.args.class w.in-Some.at w.block_at.result.start w.block_at.result.number (record { top = gave.stacked.first.top; pop = gave.pop }) w.block_at.ensures w.block_at.result refl refl;
        gave = subst (λ (a : ℕ). GaveFirst (stacks_of c.self.inside.caches) c.args.class a (stacks_of c.steal.new.self)) w.block_at.ensures.is gave;
      })
  | in-None w ↦ rw w.result-is (record { empty = w.in-None.ensures.first.empty; same = λ i. record { slabs = c.self.inside.slabs; stacks = w.in-None.ensures.first.same i } })
])
