use Rattle.std.proofs.Common.{◌≡◌, length}
use Rattle.call_times.proofs.arenas_for.Given as goal

abbrev pub invariant-loop-number : goal.invariant-loop-number
invariant-loop-number l = length l.arenas.items ≡ l.number
