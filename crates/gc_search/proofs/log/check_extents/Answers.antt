use Rattle.gc_search.proofs.Premises.{extents_of}
use Rattle.gc_search.proofs.log.check_extents.Goals as goal

pub first_overlap-requires-clause-extents : goal.first_overlap-requires-clause-extents
first_overlap-requires-clause-extents c = extents_of c.requires
