use Rattle.std.proofs.Common.{◌+◌, max, get_or, ◌∙◌, ap, arith}
use Rattle.heap_model.specs.declared.call.Call.TheVariants.{Malloc}
use Rattle.trace_text.specs.declared.call.TraceCall.{TraceCall}
use Rattle.trace_runs.proofs.ThreadNumbers.{by_at, by_more, seats_one_more}
use Rattle.trace_runs.proofs.threads.threads_of.Goals as goal

pub seats_with-seats-requires-clause-below : goal.seats_with-seats-requires-clause-below
seats_with-seats-requires-clause-below c =
    let d : TraceCall = record { thread = 0; arena = 0; call = Malloc 0 0 } in
    by_at 64 c.args.calls.now c.loop-call.call-index d c.loop-call-test.true c.requires

pub loop-call-preserved : goal.loop-call-preserved
loop-call-preserved c =
    let d : TraceCall = record { thread = 0; arena = 0; call = Malloc 0 0 } in
    let more = c.seats_with-seats.ensures.more in
    record {
      seats = c.seats_with-seats.ensures.greater ∙ ap (λ n. max n ((get_or c.args.calls.now c.loop-call.call-index d).thread + 1)) c.loop-call.invariant.seats ∙ seats_one_more c.args.calls.now c.loop-call.call-index d c.loop-call-test.true;
      some = omega (arith, more, c.loop-call.invariant.some);
      few = c.seats_with-seats.ensures.few;
      by = by_more c.loop-call.seats c.seats_with-seats.result c.args.calls.now c.loop-call.call-index d c.loop-call-test.true more c.seats_with-seats.ensures.thread c.loop-call.invariant.by;
    }
