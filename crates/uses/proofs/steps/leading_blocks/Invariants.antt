use Rattle.std.proofs.Common.{ℕ, ◌<◌}
use Rattle.pmem_lines.specs.Pmem.{words_of}
use Rattle.uses.specs.Steps.{HasRecordBlock}
use Rattle.uses.proofs.steps.leading_blocks.Given as goal

abbrev pub invariant-loop-root : goal.invariant-loop-root
invariant-loop-root g l = (root : ℕ) → root < l.root → HasRecordBlock (words_of l.arena.device) root
