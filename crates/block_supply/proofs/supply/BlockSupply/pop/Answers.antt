use Rattle.std.proofs.Common.{ℕ, refl, sym, subst}
use Rattle.thread_cache.specs.Stacks.{StackTable, stacks_of, GaveTop}
use Rattle.block_supply.specs.Kept.{IsKept}
use Rattle.block_supply.proofs.Pops.{had_top, kept_popped, taken_popped}
use Rattle.block_supply.proofs.supply.BlockSupply.pop.Goals as goal
use Rattle.block_supply.proofs.supply.BlockSupply.pop.Goals.{in-Some, in-None}

pub block_at-requires-clause-block : goal.block_at-requires-clause-block
block_at-requires-clause-block c =
    c.self.invariant.stacked c.args.seat c.args.class c.in-Some.at
    (had_top (stacks_of c.self.inside.caches) (stacks_of c.pop.new.self) c.self.invariant.distinct c.args.seat c.args.class c.in-Some.at c.in-Some.ensures.top)

pub invariant_of-self : goal.invariant_of-self
invariant_of-self c = elim c.match-pop.branch [
  | in-Some w ↦ kept_popped (record { slabs = c.self.inside.slabs; stacks = c.self.inside.caches }) (record { slabs = c.self.inside.slabs; stacks = c.pop.new.self })
      c.self.invariant refl w.in-Some.ensures.distinct c.args.seat c.args.class w.in-Some.at w.block_at.result.start w.block_at.result.number w.in-Some.ensures.top w.block_at.ensures
  | in-None w ↦ subst (λ (t : StackTable). IsKept c.self.inside.slabs t) (sym w.in-None.ensures.top.same) c.self.invariant
]

pub returns : goal.returns
returns c = rw (sym c.self.view_is) (elim c.match-pop.branch [
  | in-Some w ↦
      let gave = w.in-Some.ensures.top in
      rw w.result-is (record {
        taken = taken_popped (record { slabs = c.self.inside.slabs; stacks = c.self.inside.caches }) (record { slabs = c.self.inside.slabs; stacks = c.pop.new.self })
            c.self.invariant refl w.in-Some.ensures.distinct c.args.seat c.args.class w.in-Some.at w.block_at.result.start w.block_at.result.number gave w.block_at.ensures w.block_at.result refl refl;
        gave = subst (λ (a : ℕ). GaveTop (stacks_of c.self.inside.caches) c.args.seat c.args.class a (stacks_of c.pop.new.self)) w.block_at.ensures.is gave;
      })
  | in-None w ↦ rw w.result-is (record { empty = w.in-None.ensures.top.empty; same = λ i. record { slabs = c.self.inside.slabs; stacks = w.in-None.ensures.top.same i } })
])
