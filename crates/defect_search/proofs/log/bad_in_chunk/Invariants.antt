use Rattle.defect_search.proofs.Chunks.{IsChunkRead}
use Rattle.defect_search.proofs.log.bad_in_chunk.Given as goal

abbrev pub invariant-loop-entry : goal.invariant-loop-entry
invariant-loop-entry l = IsChunkRead l.words l.chunk l.entry l.filled
