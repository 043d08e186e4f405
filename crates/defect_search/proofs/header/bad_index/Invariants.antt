use Rattle.std.proofs.Common.{ℕ, ◌<◌}
use Rattle.defect_search.specs.Headers.{IsGoodPlace}
use Rattle.defect_search.proofs.header.bad_index.Given as goal

abbrev pub invariant-loop-place : goal.invariant-loop-place
invariant-loop-place l = (k : ℕ) → k < l.place → IsGoodPlace l.words l.start k
