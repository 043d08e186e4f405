use Rattle.std.proofs.Common.{ℕ, ◌<◌}
use Rattle.slab_index.specs.Candidates.{IsCandidate}
use Rattle.slab_index.proofs.candidates.Candidates.first.Given as goal

-- no candidate has fewer live blocks than this
abbrev pub invariant-loop-live : goal.invariant-loop-live
invariant-loop-live l = (s n : ℕ) → n < l.live → ¬ (IsCandidate l.self l.unfit l.class s n)
