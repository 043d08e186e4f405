use Rattle.std.proofs.Common.{arith}
use Rattle.slab_index.proofs.Lowest.{no_block, start_has_word, lowest}
use Rattle.slab_index.proofs.index.SlabIndex.lowest.Goals as goal

pub returns-in_err-start : goal.returns-in_err-start
returns-in_err-start c = rw c.from_residual.ensures (no_block c.self.view_is c.self.invariant c.args.class (rw c.from.ensures at c.in_err-start.ensures))

pub returns-in_err-number : goal.returns-in_err-number
returns-in_err-number c =
    let some = start_has_word c.self.view_is c.self.invariant c.args.class c.in_ok-start.start (rw c.from.ensures at c.in_ok-start.ensures) in
    absurd (omega (arith, some, c.in_err-number.ensures))

pub returns : goal.returns
returns c = lowest c.self.view_is c.self.invariant c.args.class c.in_ok-start.start c.in_ok-number.number (rw c.from.ensures at c.in_ok-start.ensures) c.in_ok-number.ensures
