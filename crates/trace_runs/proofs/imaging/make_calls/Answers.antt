use Rattle.std.proofs.Common.{List, subst}
use Rattle.std.proofs.lemmas.List.{take_all}
use Rattle.heap_model.specs.declared.call.Call.TheVariants.{Malloc}
use Rattle.trace_text.specs.declared.call.TraceCall.{TraceCall}
use Rattle.trace_runs.specs.Calls.{calls_of, HasMadeAll}
use Rattle.trace_runs.proofs.Answers.{HasMadeAll-none, HasMadeAll-here, HasMadeAll-other}
use Rattle.trace_runs.proofs.imaging.make_calls.Goals as goal

pub loop-call-init : goal.loop-call-init
loop-call-init g c = HasMadeAll-none c.args.made.now c.pmem-device.ensures.ready c.pmem-device.ensures.exact

pub loop-call-preserved-then-call-arena : goal.loop-call-preserved-then-call-arena
loop-call-preserved-then-call-arena g c =
    let d : TraceCall = record { thread = 0; arena = 0; call = Malloc 0 0 } in
    HasMadeAll-other c.args.arena c.args.calls.now c.loop-call.call-index d c.args.made.now c.loop-call.made c.loop-call-test.true c.if-call-arena.true c.loop-call.invariant

pub loop-call-preserved : goal.loop-call-preserved
loop-call-preserved g c =
    let d : TraceCall = record { thread = 0; arena = 0; call = Malloc 0 0 } in
    HasMadeAll-here c.args.arena c.args.calls.now c.loop-call.call-index d c.args.made.now c.loop-call.made c.answer.new.arena c.answer.result c.requires.each c.loop-call-test.true
    c.if-call-arena.false c.loop-call.invariant c.answer.ensures.seat c.answer.ensures.call c.answer.ensures.answered

pub returns : goal.returns
returns g c =
    subst (λ (cs : List TraceCall). HasMadeAll c.args.made.now c.loop-call.made (calls_of c.args.arena cs)) (take_all c.loop-call.call-index c.args.calls.now c.loop-call-test.false) c.loop-call.invariant
