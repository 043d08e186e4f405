use Rattle.std.proofs.Common.{sym, ap, ◌∙◌}
use Rattle.image_tables.specs.Tables.{large_of}
use Rattle.gc_heap.proofs.RootBlocks.{large_in}
use Rattle.gc_heap.proofs.blocks.granules_at.Goals as goal

pub returns : goal.returns
returns c = λ words log. c.granules_of.ensures ∙ ap large_of (c.extent_at.ensures.reads words log.reads) ∙ sym (large_in c.args.log.now words c.args.start log)
