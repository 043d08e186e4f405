use Rattle.std.proofs.Common.{false, arith}
use Rattle.std.proofs.lemmas.Bool.{iff_false}
use Rattle.unit_map.proofs.BlockRows.{next-low, none_free, none_up_to, first_is_free}
use Rattle.unit_map.proofs.block_row.first_free.Goals as goal

pub returns-in_err-lacking : goal.returns-in_err-lacking
returns-in_err-lacking c = rw c.from_residual.ensures (none_free c.args.words.now c.args.row c.requires.some c.args.from c.loop-number.number c.loop-number.invariant.none c.in_err-lacking.ensures)

pub returns-then-has_none : goal.returns-then-has_none
returns-then-has_none c =
    first_is_free c.args.words.now c.args.row c.requires.some c.args.from c.loop-number.number c.loop-number.invariant.none c.in_ok-lacking.lacking c.in_ok-lacking.ensures c.loop-number.invariant.low (c.has_none.ensures.0 c.if-has_none.true)

pub loop-number-preserved : goal.loop-number-preserved
loop-number-preserved c =
    let words = c.args.words.now in
    record {
      low = omega (arith, next-low words c.args.row c.requires.some c.loop-number.number c.in_ok-lacking.lacking false c.in_ok-lacking.ensures);
      none = none_up_to words c.args.row c.requires.some c.args.from c.loop-number.number c.loop-number.invariant.none c.in_ok-lacking.lacking c.in_ok-lacking.ensures (iff_false c.has_none.ensures c.if-has_none.false);
    }
