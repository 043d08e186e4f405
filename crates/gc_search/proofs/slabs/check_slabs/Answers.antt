use Rattle.gc_search.proofs.Premises.{slab_at}
use Rattle.gc_search.proofs.slabs.check_slabs.Goals as goal

pub state_word-requires : goal.state_word-requires
state_word-requires c = slab_at c.requires c.in-Some.start c.in-Some.ensures.here.slab
