use Rattle.std.proofs.lemmas.Result.{err_from_is_err_and}
use Rattle.pool_layout.proofs.Growing.{grown_behind}
use Rattle.pool_layout.proofs.text.grow.Goals as goal

pub returns-in_err-grow_by_number-clause-grown : goal.returns-in_err-grow_by_number-clause-grown
returns-in_err-grow_by_number-clause-grown c =
    let exit = c.from_residual-in_err-grow_by_number in
    let failed = err_from_is_err_and exit.result exit.ensures.1 in
    rw failed.1 (grown_behind _ _ _ _ c.loop-number.invariant c.in_err-grow_by_number.ensures.grown)
