use Rattle.image_raise.specs.Front.{HasRaisedEntries}
use Rattle.image_raise.proofs.log.raise_chunk.Given as goal

abbrev pub invariant-loop-entry : goal.invariant-loop-entry
invariant-loop-entry l = HasRaisedEntries l.words l.granules l.chunk l.entry l.fn.front l.front
