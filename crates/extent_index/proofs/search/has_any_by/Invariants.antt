use Rattle.extent_index.proofs.Searches.{TellsAny}
use Rattle.extent_index.proofs.search.has_any_by.Given as goal

abbrev pub invariant-loop-i : goal.invariant-loop-i
invariant-loop-i g l = TellsAny l.table l.first l.i l.all
