use Rattle.std.proofs.Common.{◌≡◌}
use Rattle.supply_tests.proofs.units.made.Given as goal

abbrev pub invariant-loop-span : goal.invariant-loop-span
invariant-loop-span l = l.units.granules ≡ 16

abbrev pub invariant-loop-span-2 : goal.invariant-loop-span-2
invariant-loop-span-2 l = l.units.granules ≡ 16
