use Rattle.std.proofs.Common.{◌≡◌, length}
use Rattle.supply_tests.proofs.candidates.puts_at_the_bounds.Given as goal

abbrev pub invariant-loop-start : goal.invariant-loop-start
invariant-loop-start g l = length l.candidates ≡ 4096
