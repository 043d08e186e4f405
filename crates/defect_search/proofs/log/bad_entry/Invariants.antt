use Rattle.std.proofs.Common.{ℕ, ◌<◌}
use Rattle.defect_search.proofs.Common.{version_in, granules_in, IsChunk, chunk_in}
use Rattle.defect_search.proofs.log.bad_entry.Given as goal

abbrev pub invariant-loop-k : goal.invariant-loop-k
invariant-loop-k l = (j : ℕ) → j < l.k → IsChunk (version_in l.words) (granules_in l.words) l.words (chunk_in l.words j)
