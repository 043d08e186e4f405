use Rattle.std.proofs.Common.{List, ℕ, ◌++◌, ◌∙◌, ap, arith}
use Rattle.nvheap.proofs.Common.{PmemState, layout_rules, IsRefusedScript, calls_of}
use Rattle.dict_text.specs.Report.{dict_run_text}
use Rattle.dict_runs.specs.Scripts.{replies_of}
use Rattle.nvheap.specs.Outside.{put_device}
use Rattle.nvheap.specs.Meaning.{Places}
use Rattle.nvheap.specs.Scripting.{scripting}
use Rattle.nvheap.proofs.Answering.{refused_line}
use Rattle.nvheap.proofs.scripting.dict_answer.Goals as goal

pub returns-in-Err-clause-answer : goal.returns-in-Err-clause-answer
returns-in-Err-clause-answer g c = refused_line scripting c.args.input.now (g.H.Shelf.places c.args.shelf.now) (IsRefusedScript c.args.input.now) c.in-Err.answer (λ line is. is) c.in-Err.ensures.refused

pub returns-clause-answer : goal.returns-clause-answer
returns-clause-answer g c =
    let script = c.in-Ok.script in
    let report = c.in_ok-left.ensures in
    let device : PmemState = g.H.Device.Pmem.state c.in_ok-left.left in
    record {
      script = record { granules = script.granules; calls = calls_of script; script = c.in-Ok.ensures.script };
      turns = report.turns;
      pairs = report.pairs;
      device = device;
      behind = report.behind;
      is = report.text ∙ ap (λ (text : List ℕ). text ++ dict_run_text (replies_of report.turns) report.pairs) c.new-text.ensures.items;
      put = c.put.ensures.places ∙ ap (λ (places : Places). put_device places 0 device) c.in_ok-device.ensures.places;
    }

pub overflow_mul-script : goal.overflow_mul-script
overflow_mul-script g c = omega (arith, c.in-Ok.ensures.size.most, (layout_rules 1).most)
