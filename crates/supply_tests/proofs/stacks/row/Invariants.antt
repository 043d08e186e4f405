use Rattle.std.proofs.Common.{ℕ, ◌+◌, ◌*◌, ◌<◌, ◌≤◌, length}
use Rattle.heap_model.specs.Placement.{Has, AreRising}
use Rattle.supply_tests.proofs.stacks.row.Given as goal

abbrev pub invariant-loop-i : goal.invariant-loop-i
invariant-loop-i l = record {
  rising : AreRising l.addresses.items;
  below : (at : ℕ) → Has l.addresses.items at → at < l.first + l.step * l.i;
  few : length l.addresses.items ≤ l.i;
}
