use Rattle.std.proofs.Common.{ap, ◌∙◌, ◌++◌, ℕ, List}
use Rattle.heap_model.specs.declared.block.Block.{Block}
use Rattle.trace_text.specs.Report.{crash_text}
use Rattle.nvheap.proofs.gc_crashing.heap_text.Goals as goal

pub returns : goal.returns
returns g c =
    let crashed = c.args.crashed.now in
    c.in_ok-write_crash.ensures.text
    ∙ ap (λ (front : List ℕ). front ++ crash_text crashed.call crashed.side c.deref.result.now) c.new-text.ensures.items
    ∙ ap (λ (blocks : List Block). crash_text crashed.call crashed.side blocks) (c.deref.ensures.value ∙ c.in_ok-blocks.ensures)
