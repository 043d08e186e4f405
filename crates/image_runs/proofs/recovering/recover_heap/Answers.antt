use Rattle.std.proofs.Common.{◌∙◌}
use Rattle.pmem_lines.specs.Pmem.{words_of}
use Rattle.heap_check.proofs.Forms.{bounds_of-same}
use Rattle.trace_runs.proofs.Listing.{blocks_in-same}
use Rattle.image_runs.proofs.recovering.recover_heap.Goals as goal

pub returns-in-Ok-listed-clause-heap : goal.returns-in-Ok-listed-clause-heap
returns-in-Ok-listed-clause-heap g c =
    let done = c.in-Ok.ensures in
    (rw c.in-Ok-listed.is at c.blocks_of-listed.ensures) ∙ blocks_in-same (words_of (g.P.Pmem.state c.args.device)) (words_of c.in-Ok.arena.device) (bounds_of-same (words_of (g.P.Pmem.state c.args.device)) (words_of c.in-Ok.arena.device) done.recovered.header) done.recovered.image.heap
