use Rattle.std.proofs.Common.{ℕ, ◌<◌}
use Rattle.gc_search.specs.Known.{HasClassBlockIn}
use Rattle.gc_search.proofs.roots.has_class_block.Given as goal

abbrev pub invariant-loop-back : goal.invariant-loop-back
invariant-loop-back l = (d : ℕ) → d < l.back → ¬ (HasClassBlockIn l.words l.class l.at d)
