use Rattle.image_tables.specs.Tables.{tables_of}
use Rattle.defect_search.proofs.Overlaps.{IsScanned}
use Rattle.defect_search.proofs.overlap.first_overlap.Given as goal

abbrev pub invariant-loop-start : goal.invariant-loop-start
invariant-loop-start l = IsScanned (tables_of l.words) l.start l.last l.end
