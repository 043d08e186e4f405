use Rattle.std.proofs.Common.{ap, arith, ◌∙◌}
use Rattle.std.proofs.lemmas.Grind.{common_steps}
use Rattle.slab_header.specs.Index.{read_index}
use Rattle.slab_header.proofs.Entries.{read_index-word, says_of_word}
use Rattle.slab_header.proofs.index.index_word.Goals as goal

pub returns-clause-word : goal.returns-clause-word
returns-clause-word c = grind (arith, common_steps)

pub returns-clause-inverse : goal.returns-clause-inverse
returns-clause-inverse c = ap read_index (returns-clause-word c) ∙ read_index-word c.args.e c.requires

pub returns-clause-says : goal.returns-clause-says
returns-clause-says c = says_of_word _ c.args.e (returns-clause-word c) c.requires
