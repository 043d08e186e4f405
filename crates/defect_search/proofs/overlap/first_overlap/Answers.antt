use Rattle.std.proofs.Common.{arith}
use Rattle.defect_search.proofs.Overlaps.{disjoint_of}
use Rattle.defect_search.proofs.overlap.first_overlap.Goals as goal

pub returns : goal.returns
returns c = disjoint_of c.args.words.now c.loop-start.start c.loop-start.last c.loop-start.end c.requires.extents (omega (arith, c.requires.granules, c.granules-start-end.ensures.granules)) c.loop-start.invariant
