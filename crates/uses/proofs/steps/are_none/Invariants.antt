use Rattle.std.proofs.Common.{ℕ, ◌<◌, ◌≤◌}
use Rattle.pmem_lines.specs.Pmem.{words_of}
use Rattle.uses.specs.Stack.{HasNone}
use Rattle.uses.proofs.steps.are_none.Given as goal

abbrev pub invariant-loop-root : goal.invariant-loop-root
invariant-loop-root g l = (root : ℕ) → l.low ≤ root → root < l.root → HasNone (words_of l.arena.device) root
