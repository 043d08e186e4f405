use Rattle.attach_dict.proofs.Common.{IsLeastOf}
use Rattle.attach_dict.proofs.HeadOrder.{IsAlikeBelow}
use Rattle.attach_dict.proofs.heads.first_twice.Given as goal

abbrev pub invariant-loop-i : goal.invariant-loop-i
invariant-loop-i l = IsLeastOf (IsAlikeBelow l.heads l.i) l.first
