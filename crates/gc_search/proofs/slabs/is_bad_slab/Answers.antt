use Rattle.std.proofs.Common.{sym, ◌∙◌}
use Rattle.gc_search.proofs.Premises.{slab_at}
use Rattle.gc_search.proofs.slabs.is_bad_slab.Goals as goal

pub state_word-requires : goal.state_word-requires
state_word-requires c = slab_at c.requires c.args.start (sym (c.is_slab.ensures c.args.words.now c.requires.reads) ∙ c.if-not-is_slab.false)
