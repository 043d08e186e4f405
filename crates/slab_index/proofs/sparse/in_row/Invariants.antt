use Rattle.std.proofs.Common.{ℕ, ◌*◌, ◌<◌}
use Rattle.slab_index.specs.Sparse.{IsOther}
use Rattle.slab_index.proofs.sparse.in_row.Given as goal

-- no word before this one has one
abbrev pub invariant-loop-at : goal.invariant-loop-at
invariant-loop-at l = (s : ℕ) → s < 64 * l.at → ¬ (IsOther l.starts.words.items l.classes l.unfit l.class l.live s)
