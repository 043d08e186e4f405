use Rattle.std.proofs.Common.{◌<◌, ◌%◌, arith}
use Rattle.std.proofs.lemmas.Nat.{mod_below}
use Rattle.step_tests.proofs.log.room.start.Goals as goal

pub overflow_add-result : goal.overflow_add-result
overflow_add-result c =
    let below : c.args.i % c.from-2.result < c.from-2.result = mod_below c.args.i c.from-2.result (omega (arith, c.from-2.ensures, c.max.ensures)) in
    omega (arith, below, c.from.ensures, c.from-2.ensures, c.max.ensures)
