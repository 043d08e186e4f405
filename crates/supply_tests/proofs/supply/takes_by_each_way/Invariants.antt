use Rattle.std.proofs.Common.{◌≡◌}
use Rattle.supply_tests.proofs.supply.takes_by_each_way.Given as goal

abbrev pub invariant-loop-seat : goal.invariant-loop-seat
invariant-loop-seat g l = l.supply.slabs.granules ≡ 24
