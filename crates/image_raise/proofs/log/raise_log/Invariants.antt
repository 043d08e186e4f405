use Rattle.image_raise.specs.Front.{HasRaisedChunks}
use Rattle.image_raise.proofs.log.raise_log.Given as goal

abbrev pub invariant-loop-chunk : goal.invariant-loop-chunk
invariant-loop-chunk l = HasRaisedChunks l.words l.granules l.chunk l.fn.front l.front
