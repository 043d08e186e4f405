use Rattle.std.proofs.Common.{◌≤◌}
use Rattle.image_tables.specs.Tables.{tables_of}
use Rattle.image_defects.specs.Count.{IsCount}
use Rattle.heap_map.specs.Cells.{IsSetBit}
use Rattle.heap_map.proofs.filling.count_bits.Given as goal

abbrev pub invariant-loop-i : goal.invariant-loop-i
invariant-loop-i l = record { count : IsCount (IsSetBit ((tables_of l.words).header l.start)) l.i l.count; few : l.count ≤ l.i }
