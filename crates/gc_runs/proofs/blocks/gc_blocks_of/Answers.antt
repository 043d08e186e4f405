use Rattle.std.proofs.Common.{◌≡◌, ◌-◌, ◌++◌, ℕ, List, ap, ◌∙◌, arith}
use Rattle.pmem_lines.specs.Pmem.{words_of}
use Rattle.pool_layout.specs.declared.layout.Layout.{Layout}
use Rattle.heap_model.specs.declared.block.Block.{Block}
use Rattle.trace_runs.specs.Blocks.{blocks_from}
use Rattle.heap_check.specs.Image.{bounds_of}
use Rattle.gc_check.specs.State.{gc_blocks}
use Rattle.gc_heap.proofs.Sizes.{first_sizes}
use Rattle.gc_runs.proofs.blocks.gc_blocks_of.Goals as goal

pub returns : goal.returns
returns g c =
    let words = words_of c.args.arena.now.device in
    let row = ap (λ (layout : Layout). layout.roots) c.layout_of.ensures.row in
    let all : c.layout_of.result.roots - 0 ≡ (bounds_of words).roots = omega (arith, row, (first_sizes words c.pmem-device.ensures.exact.formed).roots_row) in
    c.in_ok-add_blocks.ensures
    ∙ ap (λ (bs : List Block). bs ++ blocks_from (gc_blocks words) 0 (c.layout_of.result.roots - 0)) c.new-blocks.ensures.items
    ∙ ap (λ (n : ℕ). blocks_from (gc_blocks words) 0 n) all
