use Rattle.std.proofs.Common.{◌≡◌, ℕ, ◌<◌, ◌≤◌, false}
use Rattle.defect_search.specs.Roots.{mark_in}
use Rattle.gc_search.proofs.loose.is_unmet.Given as goal

abbrev pub invariant-loop-k : goal.invariant-loop-k
invariant-loop-k l = (k : ℕ) → l.start ≤ k → k < l.k → mark_in l.met k ≡ false
