use Rattle.std.proofs.Common.{arith}
use Rattle.extent_index.proofs.Best.{best_fit, no_fit, no_fit_past, not_none}
use Rattle.extent_index.proofs.Members.{granules_of}
use Rattle.extent_index.proofs.Numbers.{words_are}
use Rattle.extent_index.proofs.index.ExtentIndex.best_fit_counted.Goals as goal

pub returns-then-n-self-clause-found : goal.returns-then-n-self-clause-found
returns-then-n-self-clause-found g c = no_fit_past c.self.view_is c.self.invariant c.args.n c.if-n-self.true

pub returns-in_err-length-clause-found : goal.returns-in_err-length-clause-found
returns-in_err-length-clause-found g c =
    rw c.from_residual.ensures (no_fit c.self.view_is c.self.invariant c.args.n c.requires (rw c.words_for-words.ensures.value at c.in_err-length.ensures.found))

pub returns-in_err-length-clause-steps : goal.returns-in_err-length-clause-steps
returns-in_err-length-clause-steps g c =
    omega (arith, c.in_err-length.ensures.steps, c.words_for-words.ensures.value, words_are c.self.inside.granules, granules_of c.self.inside.granules c.self.inside.length_at.items c.self.view_is)

pub returns-in_err-number-clause-found : goal.returns-in_err-number-clause-found
returns-in_err-number-clause-found g c =
    absurd (not_none c.self.invariant c.in_ok-length.length c.row_for-row.result (omega (arith, c.in_ok-length.ensures.found.low)) c.row_for-row.ensures.value c.in_ok-length.ensures.found.is
    (rw c.words_for-words.ensures.value at c.in_err-number.ensures.found))

pub returns-in_err-number-clause-steps : goal.returns-in_err-number-clause-steps
returns-in_err-number-clause-steps g c =
    omega (arith, c.in_ok-length.ensures.steps, c.in_err-number.ensures.steps, c.words_for-words.ensures.value, words_are c.self.inside.granules, granules_of c.self.inside.granules c.self.inside.length_at.items c.self.view_is)

pub returns-clause-found : goal.returns-clause-found
returns-clause-found g c =
    best_fit c.self.view_is c.self.invariant c.args.n c.in_ok-length.length c.row_for-row.result c.in_ok-number.number c.requires c.row_for-row.ensures.value
    (rw c.words_for-words.ensures.value at c.in_ok-length.ensures.found)
    (rw c.words_for-words.ensures.value at c.in_ok-number.ensures.found)

pub returns-clause-steps : goal.returns-clause-steps
returns-clause-steps g c =
    omega (arith, c.in_ok-length.ensures.steps, c.in_ok-number.ensures.steps, c.words_for-words.ensures.value, words_are c.self.inside.granules, granules_of c.self.inside.granules c.self.inside.length_at.items c.self.view_is)
