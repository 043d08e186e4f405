use Rattle.std.proofs.Common.{◌≡◌, ◌++◌, ◌-◌}
use Rattle.pmem_lines.specs.Pmem.{words_of}
use Rattle.image_tables.specs.Tables.{tables_of}
use Rattle.heap_check.specs.Heap.{heap}
use Rattle.trace_runs.specs.Blocks.{blocks_from}
use Rattle.trace_runs.proofs.blocks.add_blocks.Given as goal

abbrev pub invariant-loop-root : goal.invariant-loop-root
invariant-loop-root g l = l.blocks.items ≡ l.fn.blocks.items ++ blocks_from (heap (tables_of (words_of l.arena.device))) l.from (l.root - l.from)
