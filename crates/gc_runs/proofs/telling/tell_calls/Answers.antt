use Rattle.heap_model.specs.declared.call.Call.TheVariants.{Malloc}
use Rattle.trace_text.specs.declared.call.TraceCall.{TraceCall}
use Rattle.gc_runs.proofs.Made.{told_none, told_here, told_other}
use Rattle.gc_runs.proofs.telling.tell_calls.Goals as goal

pub loop-call-init : goal.loop-call-init
loop-call-init g c = told_none c.args.made.now c.args.text.now.items

pub loop-call-preserved-then-call-arena : goal.loop-call-preserved-then-call-arena
loop-call-preserved-then-call-arena g c =
    let d : TraceCall = record { thread = 0; arena = 0; call = Malloc 0 0 } in
    told_other c.args.arena c.args.calls.now c.loop-call.call-index d c.args.made.now c.loop-call.made c.args.text.now.items c.loop-call.text.items c.loop-call-test.true c.if-call-arena.true c.loop-call.invariant

pub loop-call-preserved : goal.loop-call-preserved
loop-call-preserved g c =
    let d : TraceCall = record { thread = 0; arena = 0; call = Malloc 0 0 } in
    told_here c.args.arena c.args.calls.now c.loop-call.call-index d c.args.made.now c.loop-call.made c.answer.new.arena c.args.text.now.items c.loop-call.text.items c.write_entry.new.out.items c.answer.result c.loop-call-test.true
    c.if-call-arena.false c.loop-call.invariant c.answer.ensures.seat c.answer.ensures.call c.answer.ensures.answered c.in_ok-write_entry.ensures.text
