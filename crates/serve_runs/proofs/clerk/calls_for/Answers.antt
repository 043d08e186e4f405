use Rattle.std.proofs.Common.{◌≡◌, ◌+◌, ◌≤◌, ◌∙◌, ap, sym, arith, length, take}
use Rattle.serve_runs.proofs.Common.{Malloc, TraceCall, calls_of}
use Rattle.serve_runs.proofs.Counts.{count_more, count_other}
use Rattle.serve_runs.proofs.clerk.calls_for.Goals as goal
use Rattle.serve_runs.proofs.clerk.calls_for.Goals.{then-call-arena, else-call-arena}

pub loop-call-preserved : goal.loop-call-preserved
loop-call-preserved c =
    let d : TraceCall = record { thread = 0; arena = 0; call = Malloc 0 0 } in
    let k = c.loop-call.call-index in
    let calls = c.args.calls.now in
    let arena = c.args.arena in
    let inv = c.loop-call.invariant in
    elim c.if-call-arena.branch [
      | then-call-arena w ↦
          let more = count_more arena k calls d c.loop-call-test.true w.if-call-arena.true in
          let is = w.count-is in
          (omega (arith, is, inv.0, more), omega (arith, is, inv.1))
      | else-call-arena w ↦
          let same = count_other arena k calls d c.loop-call-test.true w.if-call-arena.false in
          let is = w.count-is in
          (is ∙ (inv.0 ∙ sym same), omega (arith, is, inv.1))
    ]
