use Rattle.std.proofs.Common.{arith, refl}
use Rattle.trace_text.specs.Grammar.{IsRefusedStillLine}
use Rattle.nvheap.proofs.Common.{NoArena, NoEvent, pool_of}
use Rattle.trace_crashes.specs.Crash.{left_of}
use Rattle.nvheap.specs.declared.cause.Cause.TheVariants.{Text}
use Rattle.nvheap.specs.Crashing.{gc_arenas, crashing}
use Rattle.nvheap.proofs.Answering.{refused, refused_line}
use Rattle.nvheap.proofs.gc_crashing.gc_crash_answer.Goals as goal

pub returns-in-Err-clause-answer : goal.returns-in-Err-clause-answer
returns-in-Err-clause-answer g c =
    refused_line (crashing gc_arenas c.args.arena c.args.event c.args.seed) c.args.input.now (g.H.Shelf.places c.args.shelf.now) (IsRefusedStillLine c.args.input.now) c.in-Err.answer (λ line is. is) c.in-Err.ensures.refused

pub returns-then-arena-trace-clause-answer : goal.returns-then-arena-trace-clause-answer
returns-then-arena-trace-clause-answer g c =
    let trace = c.in-Ok.trace in
    refused (crashing gc_arenas c.args.arena c.args.event c.args.seed) c.args.input.now (g.H.Shelf.places c.args.shelf.now) (Text (NoArena c.args.arena trace.arenas)) c.lacks_arena.result
    (record { trace = record { pool = pool_of trace; calls = trace.calls.items; trace = c.in-Ok.ensures.trace }; is_asked = refl; is_all = refl; lacks = c.if-arena-trace.true })
    c.lacks_arena.ensures

pub returns-in-Err-NoEvent-clause-answer : goal.returns-in-Err-NoEvent-clause-answer
returns-in-Err-NoEvent-clause-answer g c =
    let trace = c.in-Ok.trace in
    let fewer = rw c.in-Err-NoEvent.field-0-is at c.in-Err-NoEvent.ensures.fault in
    refused (crashing gc_arenas c.args.arena c.args.event c.args.seed) c.args.input.now (g.H.Shelf.places c.args.shelf.now) (Text (NoEvent c.args.event c.in-Err-NoEvent.events)) c.lacks_event.result
    (record { trace = record { pool = pool_of trace; calls = trace.calls.items; trace = c.in-Ok.ensures.trace }; inside = omega (arith, c.if-arena-trace.false); is_asked = refl; fewer = fewer })
    c.lacks_event.ensures

pub returns-in-Ok-gc_crash-clause-answer : goal.returns-in-Ok-gc_crash-clause-answer
returns-in-Ok-gc_crash-clause-answer g c =
    let trace = c.in-Ok.trace in
    record {
      trace = record { pool = pool_of trace; calls = trace.calls.items; trace = c.in-Ok.ensures.trace };
      inside = omega (arith, c.if-arena-trace.false);
      left = left_of c.in-Ok-gc_crash.crashed;
      leaves = c.in-Ok-gc_crash.ensures.crashed;
      is = c.in_ok-recovered_report-in-Ok-gc_crash.ensures.text;
      shelf = c.in_ok-recovered_report-in-Ok-gc_crash.ensures.put;
    }
