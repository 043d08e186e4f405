use Rattle.defect_search.proofs.Marks.{morphing_by}
use Rattle.defect_search.proofs.loose.is_morphing.Goals as goal

pub returns : goal.returns
returns c = morphing_by c.args.words.now c.args.start c.is_kind.result c.is_kind.ensures.slab
