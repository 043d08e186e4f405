use Rattle.std.proofs.Common.{length}
use Rattle.dict_text.proofs.Words.{WordsSoFar}
use Rattle.dict_text.proofs.line.read_value.Given as goal

abbrev pub invariant-loop-rest : goal.invariant-loop-rest
invariant-loop-rest l = WordsSoFar l.text l.rest l.fn.values.items l.values.items l.count

abbrev pub decreases-loop-rest : goal.decreases-loop-rest
decreases-loop-rest l = length l.rest
