use Rattle.std.proofs.Common.{◌≡◌, length}
use Rattle.trace_text.specs.Grammar.{pool_of}
use Rattle.nvpool.specs.Cutting.{AreParts}
use Rattle.nvpool.proofs.cutting.pool_bytes.Given as goal

abbrev pub invariant-loop-arena : goal.invariant-loop-arena
invariant-loop-arena l = record {
  parts : AreParts (pool_of l.trace) l.trace.calls.items l.cut l.image l.arena l.bytes.items;
  piece : length l.piece.items ≡ 4096;
}
