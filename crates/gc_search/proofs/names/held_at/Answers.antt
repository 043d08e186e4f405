use Rattle.std.proofs.Common.{◌∙◌}
use Rattle.gc_search.proofs.Marks.{held_by}
use Rattle.gc_search.proofs.names.held_at.Goals as goal

pub returns : goal.returns
returns c = c.address_of.ensures.field ∙ held_by c.args.words.now c.args.root c.root_word.result c.root_word.ensures
