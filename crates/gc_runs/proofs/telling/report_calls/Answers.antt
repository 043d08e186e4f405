use Rattle.std.proofs.Common.{◌++◌, List, ap, ◌∙◌}
use Rattle.std.proofs.lemmas.Result.{on_ok_weaker}
use Rattle.heap_model.specs.declared.block.Block.{Block}
use Rattle.trace_text.specs.Report.{heap_text}
use Rattle.gc_runs.proofs.Made.{told_report}
use Rattle.gc_runs.proofs.telling.report_calls.Goals as goal

pub returns : goal.returns
returns g c =
    let lines = c.tell_calls.new.text.items in
    on_ok_weaker c.write_heap.result
    (λ last. told_report c.args.arena c.args.calls.now c.args.made.now c.tell_calls.new.made c.count_calls-many.result c.in_ok-blocks.blocks.items c.args.text.now.items c.write_arena.new.out.items lines c.write_heap.new.out.items
    c.count_calls-many.ensures c.in_ok-write_arena.ensures.text c.in_ok-tell_calls.ensures c.in_ok-blocks.ensures (last ∙ ap (λ (bs : List Block). lines ++ heap_text bs) c.deref.ensures.value))
    c.write_heap.ensures.text
