use Rattle.step_tests.proofs.Filling.{IsFilling}
use Rattle.step_tests.proofs.log.room.fill.Given as goal

abbrev pub invariant-loop-i : goal.invariant-loop-i
invariant-loop-i l = IsFilling l.fn.version l.log l.device
