use Rattle.std.proofs.Common.{◌≡◌, ◌<◌, ℕ, length}
use Rattle.heap_map.specs.Facts.{IsFillOf, fill_in}
use Rattle.gc_map.specs.GcRules.{gc_rules}
use Rattle.gc_map.proofs.classes.class_fills.Given as goal

abbrev pub invariant-loop-class : goal.invariant-loop-class
invariant-loop-class l = record {
  all : length l.fills.items ≡ l.class;
  each : (k : ℕ) → k < l.class → IsFillOf gc_rules l.words k (fill_in l.fills.items k);
}
