use Rattle.std.proofs.Common.{List, ℕ, arith, refl, subst}
use Rattle.trace_text.specs.Grammar.{pool_of, IsRefusedLine}
use Rattle.trace_text.specs.declared.call.Refusal.TheVariants.{NoArena, NoEvent}
use Rattle.trace_runs.specs.Calls.{calls_of}
use Rattle.trace_crashes.specs.Crash.{left_of}
use Rattle.nvpool.specs.declared.cause.Cause.TheVariants.{Text}
use Rattle.nvpool.specs.Cutting.{cutting, AreParts}
use Rattle.nvpool.proofs.Answering.{refused, refused_line}
use Rattle.nvpool.proofs.Cuts.{crash_steady}
use Rattle.nvpool.proofs.cutting.cut_answer.Goals as goal

pub returns-in-Err : goal.returns-in-Err
returns-in-Err c =
    refused_line (cutting c.args.arena c.args.event c.args.seed) c.args.input.now (IsRefusedLine c.args.input.now) c.in-Err.answer (λ line is. is) c.in-Err.ensures.refused

pub returns-then-arena-trace : goal.returns-then-arena-trace
returns-then-arena-trace c =
    let trace = c.in-Ok.trace in
    refused (cutting c.args.arena c.args.event c.args.seed) c.args.input.now (Text (NoArena c.args.arena trace.arenas)) c.lacks_arena.result
    (record { trace = record { pool = pool_of trace; calls = trace.calls.items; trace = c.in-Ok.ensures.trace }; is_asked = refl; is_all = refl; lacks = c.if-arena-trace.true })
    c.lacks_arena.ensures

pub returns-in-Err-NoEvent : goal.returns-in-Err-NoEvent
returns-in-Err-NoEvent c =
    let trace = c.in-Ok.trace in
    let fewer = rw c.in-Err-NoEvent.field-0-is at c.in-Err-NoEvent.ensures.fault in
    refused (cutting c.args.arena c.args.event c.args.seed) c.args.input.now (Text (NoEvent c.args.event c.in-Err-NoEvent.events)) c.fault_line.result
    (record { trace = record { pool = pool_of trace; calls = trace.calls.items; trace = c.in-Ok.ensures.trace }; inside = omega (arith, c.if-arena-trace.false); is_asked = refl; fewer = fewer })
    c.fault_line.ensures

pub returns-in-Ok-crash : goal.returns-in-Ok-crash
returns-in-Ok-crash c =
    let trace = c.in-Ok.trace in
    let crashed = c.in-Ok-crash.crashed in
    record {
      trace = record { pool = pool_of trace; calls = trace.calls.items; trace = c.in-Ok.ensures.trace };
      inside = omega (arith, c.if-arena-trace.false);
      left = left_of crashed;
      leaves = c.in-Ok-crash.ensures.crashed;
      steady = crash_steady (pool_of trace) c.args.arena (calls_of c.args.arena trace.calls.items) c.args.event c.args.seed (left_of crashed) c.in-Ok.ensures.pool (omega (arith, c.if-arena-trace.false)) c.in-Ok-crash.ensures.crashed;
      parts = subst (λ (words : List ℕ). AreParts (pool_of trace) trace.calls.items c.args.arena words trace.arenas c.in_ok-pool_bytes-in-Ok-crash.field-0.items) c.deref.ensures.value c.in_ok-pool_bytes-in-Ok-crash.ensures;
    }
