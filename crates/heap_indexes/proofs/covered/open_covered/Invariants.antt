use Rattle.std.proofs.Common.{◌≡◌, ◌≤◌, ◌⊎◌}
use Rattle.heap_indexes.proofs.Covers.{AreOpenedBelow}
use Rattle.heap_indexes.proofs.covered.open_covered.Given as goal

abbrev pub invariant-loop-number : goal.invariant-loop-number
invariant-loop-number l = record {
  opened : AreOpenedBelow l.units l.fn.supply l.slab.start l.slab.class (record { at = l.at; size = l.size }) l.initial.number l.number l.end l.supply;
  low : l.initial.number ≤ l.number;
  high : (l.number ≤ l.end) ⊎ (l.number ≡ l.initial.number);
}
