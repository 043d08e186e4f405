use Rattle.std.proofs.Common.{◌≡◌, ◌<◌, ◌∙◌, length, sym, ap, arith}
use Rattle.trace_crashes.proofs.Common.{Malloc, TraceCall, Stage}
use Rattle.trace_crashes.proofs.UnderWay.{Seeking-none, Seeking-other, Seeking-here, IsBehindSought-here, IsBehindAll-none}
use Rattle.trace_crashes.proofs.seeking.seek.Goals as goal
use Rattle.trace_crashes.proofs.seeking.seek.Goals.{else-count-gt0-via-then-count-gt0+else-left-count, else-count-gt0-via-else-count-gt0}

pub loop-call-init : goal.loop-call-init
loop-call-init g c = record { seeking = λ words. Seeking-none _ g.A.SimArena.step g.A.SimArena.variant words c.args.arena c.args.calls.now c.args.event c.args.made.now; sum = omega arith; few = omega arith }

pub loop-call-preserved-then-call-arena : goal.loop-call-preserved-then-call-arena
loop-call-preserved-then-call-arena g c =
    let d : TraceCall = record { thread = 0; arena = 0; call = Malloc 0 0 } in
    record {
      seeking = λ words. Seeking-other _ g.A.SimArena.step g.A.SimArena.variant words c.args.arena c.args.calls.now c.args.event c.args.made.now c.loop-call.made c.loop-call.call-index c.loop-call.number c.loop-call.left c.loop-call.events d
          (c.loop-call.invariant.seeking words) c.loop-call-test.true c.if-call-arena.true;
      sum = c.loop-call.invariant.sum;
      few = let few = c.loop-call.invariant.few in omega (arith, few);
    }

pub loop-call-preserved : goal.loop-call-preserved
loop-call-preserved g c =
    let d : TraceCall = record { thread = 0; arena = 0; call = Malloc 0 0 } in
    let n = c.from-count.result in
    let answered = c.answer-entry.ensures in
    let size : length answered.0.events ≡ n = answered.2.count ∙ sym (c.from-count.ensures ∙ c.events_of.ensures) in
    let few : 0 < n → n < c.loop-call.left = λ some. elim c.else-count-gt0.branch [
      | else-count-gt0-via-then-count-gt0+else-left-count w ↦ omega (arith, w.if-left-count.false)
      | else-count-gt0-via-else-count-gt0 w ↦ omega (arith, some, w.if-count-gt0.false)
    ] in
    record {
      seeking = λ words.
          Seeking-here _ g.A.SimArena.step g.A.SimArena.variant words c.args.arena c.args.calls.now c.args.event c.args.made.now c.loop-call.made _ c.loop-call.call-index c.loop-call.number c.loop-call.left c.loop-call.events n d
          answered.0 (c.loop-call.invariant.seeking words) c.loop-call-test.true c.if-call-arena.false answered.1 size few;
      sum = omega (arith, few, c.loop-call.invariant.sum);
      few = let few = c.loop-call.invariant.few in omega (arith, few);
    }

pub returns-then-left-count-clause-sought : goal.returns-then-left-count-clause-sought
returns-then-left-count-clause-sought g c header fresh =
    let d : TraceCall = record { thread = 0; arena = 0; call = Malloc 0 0 } in
    let n = c.from-count.result in
    let words = g.A.SimArena.formatted header in
    let answered = c.answer-entry.ensures in
    let size : length answered.0.events ≡ n = answered.2.count ∙ sym (c.from-count.ensures ∙ c.events_of.ensures) in
    IsBehindSought-here _ g.A.SimArena.step g.A.SimArena.variant words c.args.arena c.args.calls.now c.args.event c.args.made.now c.loop-call.made _ c.loop-call.call-index c.loop-call.number c.loop-call.left c.loop-call.events n d
    answered.0 (c.loop-call.invariant.seeking words) c.loop-call-test.true c.if-call-arena.false answered.1 size
    _ (g.A.SimArena.is_new header) fresh (answered.2.last (omega (arith, size, c.if-count-gt0.true))).0 c.if-count-gt0.true c.if-left-count.true

pub returns-then-left-count-clause-next : goal.returns-then-left-count-clause-next
returns-then-left-count-clause-next g c =
    let n = c.from-count.result in
    let answered = c.answer-entry.ensures in
    let size : length answered.0.events ≡ n = answered.2.count ∙ sym (c.from-count.ensures ∙ c.events_of.ensures) in
    let last = answered.2.last (omega (arith, size, c.if-count-gt0.true)) in (
      last.1,
      (let same = ap (λ (s : Stage). length s.events) last.0 in omega (arith, c.if-left-count.true, size, same)),
    )

pub returns-clause-sought : goal.returns-clause-sought
returns-clause-sought g c header fresh =
    let words = g.A.SimArena.formatted header in
    IsBehindAll-none _ g.A.SimArena.step g.A.SimArena.variant words c.args.arena c.args.calls.now c.args.event c.args.made.now (g.A.SimArena.is_new header) c.loop-call.made c.loop-call.call-index c.loop-call.number c.loop-call.left c.loop-call.events
    fresh (c.loop-call.invariant.seeking words) (omega (arith, c.loop-call-test.false)) c.loop-call.invariant.sum
