use Rattle.std.proofs.Common.{◌≡◌, ◌≤◌, ◌+◌, ◌++◌, drop, length}
use Rattle.heap_model.specs.Placement.{addresses}
use Rattle.block_supply.proofs.supply.rest_of.Given as goal

abbrev pub invariant-loop-i : goal.invariant-loop-i
invariant-loop-i l = record {
  left : l.rest.items ++ addresses l.blocks.start l.class (drop l.i l.blocks.numbers.items) ≡ addresses l.blocks.start l.class (drop 1 l.blocks.numbers.items);
  count : length l.rest.items + 1 ≤ l.i;
}
