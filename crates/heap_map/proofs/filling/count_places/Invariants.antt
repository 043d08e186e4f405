use Rattle.std.proofs.Common.{◌≤◌}
use Rattle.image_tables.specs.Tables.{tables_of}
use Rattle.image_defects.specs.Count.{IsCount}
use Rattle.heap_map.specs.Cells.{IsLivePlace}
use Rattle.heap_map.proofs.filling.count_places.Given as goal

abbrev pub invariant-loop-place : goal.invariant-loop-place
invariant-loop-place l = record { count : IsCount (IsLivePlace ((tables_of l.words).header l.start)) l.place l.count; few : l.count ≤ l.place }
