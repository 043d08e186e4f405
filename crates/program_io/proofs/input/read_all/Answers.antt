use Rattle.std.proofs.Common.{◌∙◌, refl, arith}
use Rattle.program_io.proofs.Reading.{come_none, come_filled, come_all, come_too_much, come_few, Rose-before}
use Rattle.program_io.proofs.input.read_all.Goals as goal

pub loop-size-init : goal.loop-size-init
loop-size-init g c = record {
  come = come_none (g.S.Source.left c.args.source.now) c.args.input.now c.requires.none;
  within = omega arith;
  whole = λ few. refl;
  buffer = c.in_ok-piece.ensures.len;
  fits = λ kind fits. fits;
  still = refl;
}

pub returns-in_err-n-clause-few : goal.returns-in_err-n-clause-few
returns-in_err-n-clause-few g c failed =
    let left = g.S.Source.left in
    let most = c.min-most.ensures in
    come_few (left c.args.source.now) (left c.loop-size.source) (left c.fill.new.source) c.loop-size.input c.loop-size.size c.min-most.result c.args.limit c.loop-size.invariant.come c.in_err-n.ensures.less
    (omega (arith, most, c.loop-size-test.true))

pub returns-in_err-n-clause-failed : goal.returns-in_err-n-clause-failed
returns-in_err-n-clause-failed g c failed =
    let faults = g.S.Source.faults in
    Rose-before (faults c.args.source.now) (faults c.loop-size.source) (faults c.fill.new.source) (let still = c.loop-size.invariant.still in omega (arith, still)) c.in_err-n.ensures.failed

pub returns-in_err-add-clause-fits : goal.returns-in_err-add-clause-fits
returns-in_err-add-clause-fits g c kind fits = c.in_err-add.ensures.fits kind (c.loop-size.invariant.fits kind fits)

pub returns-then-n-most-clause-all : goal.returns-then-n-most-clause-all
returns-then-n-most-clause-all g c =
    let inv = c.loop-size.invariant in
    let come = come_filled c.in_ok-n.n c.fill.new.piece c.loop-size.piece.items inv.come (inv.whole c.loop-size-test.true) c.deref.ensures.value (omega (arith, inv.buffer, c.in_ok-n.ensures.count, c.min-most.ensures)) (omega (arith, inv.buffer, c.in_ok-n.ensures.count, c.min-most.ensures, c.in_ok-n.ensures.size, c.deref_mut.ensures.len)) c.in_ok-n.ensures.gives c.in_ok-add.ensures.bytes in
    come_all c.args.limit come (omega (arith, c.min-most.ensures, c.if-n-most.true, c.loop-size-test.true)) (c.in_ok-n.ensures.end c.if-n-most.true)

pub returns-then-n-most-clause-fits : goal.returns-then-n-most-clause-fits
returns-then-n-most-clause-fits g c kind fits = c.in_ok-add.ensures.fits kind (c.loop-size.invariant.fits kind fits)

pub loop-size-preserved : goal.loop-size-preserved
loop-size-preserved g c =
    let inv = c.loop-size.invariant in
    let count = c.in_ok-n.ensures.count in
    let most = c.min-most.ensures in
    let whole = inv.whole c.loop-size-test.true in
    record {
      come = come_filled c.in_ok-n.n c.fill.new.piece c.loop-size.piece.items inv.come whole c.deref.ensures.value (omega (arith, inv.buffer, count, most)) (omega (arith, inv.buffer, count, most, c.in_ok-n.ensures.size, c.deref_mut.ensures.len)) c.in_ok-n.ensures.gives c.in_ok-add.ensures.bytes;
      within = omega (arith, most, count, c.loop-size-test.true);
      whole = λ few. omega (arith, whole, most, count, c.if-n-most.false, few);
      buffer = inv.buffer;
      fits = λ kind fits. c.in_ok-add.ensures.fits kind (inv.fits kind fits);
      still = c.in_ok-n.ensures.still ∙ inv.still;
    }

pub returns-clause-too_long : goal.returns-clause-too_long
returns-clause-too_long g c long =
    let within = c.loop-size.invariant.within in
    come_too_much (g.S.Source.left c.args.source.now) (g.S.Source.left c.loop-size.source) c.loop-size.input c.loop-size.size c.args.limit c.loop-size.invariant.come (omega (arith, within, c.loop-size-test.false))
