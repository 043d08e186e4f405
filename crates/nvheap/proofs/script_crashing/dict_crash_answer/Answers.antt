use Rattle.std.proofs.Common.{refl}
use Rattle.nvheap.proofs.Common.{NoEvent, IsRefusedScript, calls_of}
use Rattle.dict_runs.specs.Watching.{left_of}
use Rattle.nvheap.specs.declared.cause.Cause.TheVariants.{Text}
use Rattle.nvheap.specs.ScriptCrashing.{script_crashing}
use Rattle.nvheap.proofs.Answering.{refused, refused_line}
use Rattle.nvheap.proofs.script_crashing.dict_crash_answer.Goals as goal

pub returns-in-Err-clause-answer : goal.returns-in-Err-clause-answer
returns-in-Err-clause-answer g c =
    refused_line (script_crashing c.args.event c.args.seed) c.args.input.now (g.H.Shelf.places c.args.shelf.now) (IsRefusedScript c.args.input.now) c.in-Err.answer (λ line is. is) c.in-Err.ensures.refused

pub returns-in-Err-NoEvent-clause-answer : goal.returns-in-Err-NoEvent-clause-answer
returns-in-Err-NoEvent-clause-answer g c =
    let script = c.in-Ok.script in
    let fewer = rw c.in-Err-NoEvent.field-0-is at c.in-Err-NoEvent.ensures.fault in
    refused (script_crashing c.args.event c.args.seed) c.args.input.now (g.H.Shelf.places c.args.shelf.now) (Text (NoEvent c.args.event c.in-Err-NoEvent.events)) c.lacks_event.result
    (record { script = record { granules = script.granules; calls = calls_of script; script = c.in-Ok.ensures.script }; is_asked = refl; fewer = fewer })
    c.lacks_event.ensures

pub returns-in-Ok-crash_script-clause-answer : goal.returns-in-Ok-crash_script-clause-answer
returns-in-Ok-crash_script-clause-answer g c =
    let script = c.in-Ok.script in
    let crashed = c.in-Ok-crash_script.crashed in
    let report = c.in_ok-recovered_map-in-Ok-crash_script.ensures.text in
    record {
      script = record { granules = script.granules; calls = calls_of script; script = c.in-Ok.ensures.script };
      left = left_of crashed report.side report.pairs;
      leaves = c.in-Ok-crash_script.ensures.crashed.each report.pairs report.side report.steady report.is_side;
      is = report.is;
      shelf = c.in_ok-recovered_map-in-Ok-crash_script.ensures.put;
    }
