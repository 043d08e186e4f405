use Rattle.std.proofs.Common.{◌<◌, sym, ◌∙◌, arith}
use Rattle.step_tests.proofs.Common.{class_capacity, words_of}
use Rattle.step_tests.proofs.TakenClasses.{may_take, takes_few}
use Rattle.step_tests.proofs.slabs.morphs.take_class.Goals as goal

pub morph-requires-clause-morphable : goal.morph-requires-clause-morphable
morph-requires-clause-morphable g c =
    let state = c.in-Some-Normal in
    let below : c.args.number < class_capacity state.own = omega (arith, c.if-number-capacity.false, c.capacity.ensures.count) in
    may_take (words_of (g.P.Pmem.state c.args.p.now)) 4 c.load.result state.field-0 c.load.ensures state.ensures.says c.args.class c.args.number state.own state.ensures.state state.field-0-is below
    (omega (arith, c.if-number-capacity.false, c.capacity.ensures.most)) (sym c.if-bit_at.true ∙ c.bit_at.ensures.bit) (c.fit.ensures.fit.0 c.if-fit.true)

pub morph-requires-clause-room : goal.morph-requires-clause-room
morph-requires-clause-room g c =
    let state = c.in-Some-Normal in
    let below : c.args.number < class_capacity state.own = omega (arith, c.if-number-capacity.false, c.capacity.ensures.count) in
    let few = takes_few (words_of (g.P.Pmem.state c.args.p.now)) 4 c.load.result state.field-0 c.load.ensures state.ensures.says c.args.class c.args.number state.own state.ensures.state state.field-0-is below
    (omega (arith, c.if-number-capacity.false, c.capacity.ensures.most)) (sym c.if-bit_at.true ∙ c.bit_at.ensures.bit) (c.fit.ensures.fit.0 c.if-fit.true) in
    omega (arith, few, c.if-left-lt152.false, c.left.ensures)
