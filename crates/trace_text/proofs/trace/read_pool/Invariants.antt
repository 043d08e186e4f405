use Rattle.std.proofs.Common.{◌+◌, ◌≤◌, length}
use Rattle.trace_text.specs.Texts.{lines_of}
use Rattle.trace_text.specs.Lines.{lines_for}
use Rattle.trace_text.proofs.Texts.{PassedSoFar}
use Rattle.trace_text.proofs.trace.read_pool.Given as goal

abbrev pub invariant-loop-rest : goal.invariant-loop-rest
invariant-loop-rest l = record {
  passed : PassedSoFar (lines_for l.kind) (lines_of l.text) (lines_of l.rest) l.many;
  within : l.many + length l.rest ≤ length l.text;
}

abbrev pub decreases-loop-rest : goal.decreases-loop-rest
decreases-loop-rest l = length l.rest
