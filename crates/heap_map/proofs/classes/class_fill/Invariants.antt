use Rattle.std.proofs.Common.{◌≤◌, ◌*◌}
use Rattle.image_tables.specs.Tables.{tables_of}
use Rattle.heap_map.specs.Facts.{IsClassFill}
use Rattle.heap_map.proofs.classes.class_fill.Given as goal

abbrev pub invariant-loop-granule : goal.invariant-loop-granule
invariant-loop-granule l = record {
  is : IsClassFill (tables_of l.words) l.granule l.class l.fill;
  few_slabs : l.fill.slabs ≤ l.granule;
  few_live : l.fill.live ≤ 4096 * l.granule;
  few_old : l.fill.old ≤ 64 * l.granule;
}
