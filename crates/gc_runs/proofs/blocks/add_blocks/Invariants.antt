use Rattle.std.proofs.Common.{◌≡◌, ◌++◌, ◌-◌}
use Rattle.pmem_lines.specs.Pmem.{words_of}
use Rattle.gc_check.specs.State.{gc_blocks}
use Rattle.trace_runs.specs.Blocks.{blocks_from}
use Rattle.gc_runs.proofs.blocks.add_blocks.Given as goal

abbrev pub invariant-loop-root : goal.invariant-loop-root
invariant-loop-root g l = l.blocks.items ≡ l.fn.blocks.items ++ blocks_from (gc_blocks (words_of l.arena.device)) l.from (l.root - l.from)
