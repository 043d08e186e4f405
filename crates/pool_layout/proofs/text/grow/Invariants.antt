use Rattle.std.proofs.Common.{◌≡◌, ◌++◌, take, flat_map}
use Rattle.pool_layout.specs.Defect.{spaced_number}
use Rattle.pool_layout.proofs.text.grow.Given as goal

abbrev pub invariant-loop-number : goal.invariant-loop-number
invariant-loop-number l = l.text.items ≡ l.fn.text.items ++ (l.name ++ flat_map spaced_number (take l.number-index l.numbers))
