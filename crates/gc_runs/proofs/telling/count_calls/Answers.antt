use Rattle.std.proofs.Common.{◌+◌, ap, ◌∙◌, sym, arith}
use Rattle.heap_model.specs.declared.call.Call.TheVariants.{Malloc}
use Rattle.trace_text.specs.declared.call.TraceCall.{TraceCall}
use Rattle.gc_runs.proofs.Made.{count_here, count_other, count_few}
use Rattle.gc_runs.proofs.telling.count_calls.Goals as goal
use Rattle.gc_runs.proofs.telling.count_calls.Goals.{then-call-arena, else-call-arena}

pub overflow_add-many : goal.overflow_add-many
overflow_add-many c = omega (arith, c.loop-call.invariant, count_few c.args.arena c.args.calls.now c.loop-call.call-index c.requires c.loop-call-test.true)

pub loop-call-preserved : goal.loop-call-preserved
loop-call-preserved c =
    let d : TraceCall = record { thread = 0; arena = 0; call = Malloc 0 0 } in
    elim c.if-call-arena.branch [
      | then-call-arena w ↦ w.many-is ∙ ap (λ n. n + 1) c.loop-call.invariant ∙ sym (count_here c.args.arena c.args.calls.now c.loop-call.call-index d c.loop-call-test.true w.if-call-arena.true)
      | else-call-arena w ↦ w.many-is ∙ c.loop-call.invariant ∙ sym (count_other c.args.arena c.args.calls.now c.loop-call.call-index d c.loop-call-test.true w.if-call-arena.false)
    ]
