use Rattle.std.proofs.Common.{◌∙◌, sym}
use Rattle.defect_search.proofs.Marks.{kind_by}
use Rattle.defect_search.proofs.loose.is_kind.Goals as goal

pub returns-clause-slab : goal.returns-clause-slab
returns-clause-slab c = kind_by c.args.words.now c.args.start c.args.kind c.state_field.result (sym (c.is_slab.ensures c.args.words.now c.requires.reads) ∙ c.if-not-is_slab.false) c.state_field.ensures
