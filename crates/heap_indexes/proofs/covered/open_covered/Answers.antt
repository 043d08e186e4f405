use Rattle.std.proofs.Common.{refl, ◌∙◌, arith, inl, inr}
use Rattle.heap_indexes.proofs.Covers.{opened_first, next_closed, opened_next, opened_all}
use Rattle.heap_indexes.proofs.covered.open_covered.Goals as goal

pub loop-number-init : goal.loop-number-init
loop-number-init c = record {
  opened = opened_first c.args.units.now c.args.supply.now c.args.slab.start c.args.slab.class (record { at = c.args.at; size = c.args.size }) c.covered_by-row.result.from c.covered_by-row.result.end;
  low = omega arith;
  high = inr refl;
}

pub open_if_clear-requires-clause-slab : goal.open_if_clear-requires-clause-slab
open_if_clear-requires-clause-slab c = c.loop-number.invariant.opened.classes c.args.slab.start ∙ c.requires.slab

pub open_if_clear-requires-clause-none : goal.open_if_clear-requires-clause-none
open_if_clear-requires-clause-none c =
    let was = c.loop-number.invariant in
    next_closed c.args.units.now c.args.supply.now c.args.slab.start c.args.slab.class (record { at = c.args.at; size = c.args.size }) c.covered_by-row.result.from c.loop-number.number c.covered_by-row.result.end c.loop-number.supply was.low c.loop-number-test.true c.covered_by-row.ensures c.requires.none was.opened

pub loop-number-preserved : goal.loop-number-preserved
loop-number-preserved c =
    let was = c.loop-number.invariant in
    record {
      opened = opened_next c.args.units.now c.args.supply.now c.args.slab.start c.args.slab.class (record { at = c.args.at; size = c.args.size }) c.covered_by-row.result.from c.loop-number.number c.covered_by-row.result.end c.loop-number.supply c.open_if_clear.new.supply was.low c.open_if_clear.ensures was.opened;
      low = omega (arith, was.low);
      high = inl (omega (arith, c.loop-number-test.true));
    }

pub returns : goal.returns
returns c =
    let was = c.loop-number.invariant in
    opened_all c.args.units.now c.args.supply.now c.args.slab.start c.args.slab.class (record { at = c.args.at; size = c.args.size }) c.covered_by-row.result.from c.loop-number.number c.covered_by-row.result.end c.loop-number.supply (omega (arith, c.loop-number-test.false)) was.high c.covered_by-row.ensures c.requires.none was.opened
