use Rattle.std.proofs.Common.{◌∙◌}
use Rattle.heap_model.specs.Machine.{slab_block}
use Rattle.defect_search.proofs.Strays.{unrooted_by}
use Rattle.defect_search.proofs.stray.is_stray.Goals as goal

pub returns : goal.returns
returns c = λ t are. unrooted_by t (slab_block c.args.start c.args.class c.args.i) c.from.result c.from-2.result c.has_block.result (c.from.ensures ∙ c.block_at-at.ensures) (c.from-2.ensures ∙ c.size_of_class.ensures.size) (c.has_block.ensures t are)
