use Rattle.dict_index.specs.Kept.{IsCountedUp}
use Rattle.dict_index.proofs.slots.all_below.Given as goal

abbrev pub invariant-loop-slot : goal.invariant-loop-slot
invariant-loop-slot l = IsCountedUp l.row.items l.slot
