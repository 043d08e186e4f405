use Rattle.std.proofs.Common.{◌≡◌, ◌<◌, ℕ, length}
use Rattle.pool_layout.specs.Header.{granules_in}
use Rattle.image_tables.specs.Tables.{tables_of}
use Rattle.heap_map.specs.Facts.{IsClassFill, fill_in}
use Rattle.heap_map.proofs.classes.class_fills.Given as goal

abbrev pub invariant-loop-class : goal.invariant-loop-class
invariant-loop-class l = record {
  all : length l.fills.items ≡ l.class;
  each : (k : ℕ) → k < l.class → IsClassFill (tables_of l.words) (granules_in l.words) k (fill_in l.fills.items k);
}
