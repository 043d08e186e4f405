use Rattle.dict_index.specs.Numbers.{IsGreatestIn}
use Rattle.dict_index.proofs.numbers.greatest_in.Given as goal

abbrev pub invariant-loop-i : goal.invariant-loop-i
invariant-loop-i l = IsGreatestIn l.numbers l.from l.i l.greatest
