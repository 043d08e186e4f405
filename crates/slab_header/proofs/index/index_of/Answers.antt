use Rattle.slab_header.proofs.Entries.{none_read}
use Rattle.slab_header.proofs.index.index_of.Goals as goal

pub returns-else-index_word-word-clause-entry : goal.returns-else-index_word-word-clause-entry
returns-else-index_word-word-clause-entry c = none_read c.args.word c.read_index-entry.result c.index_word.result c.read_index-entry.ensures c.index_word.ensures.word c.if-index_word-word.false
