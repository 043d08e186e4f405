use Rattle.std.proofs.Common.{◌+◌, ◌-◌, ◌≤◌}
use Rattle.heap_model.specs.Runs.{IsFreeRow}
use Rattle.extent_index.specs.FreeSet.{IsFree}
use Rattle.extent_index.proofs.index.ExtentIndex.run_with.Given as goal

abbrev pub invariant-loop-start : goal.invariant-loop-start
invariant-loop-start l = record {
  low : l.start ≤ l.k;
  row : IsFreeRow (IsFree l.self) l.start (l.k + 1 - l.start);
}

abbrev pub decreases-loop-start : goal.decreases-loop-start
decreases-loop-start l = l.start
