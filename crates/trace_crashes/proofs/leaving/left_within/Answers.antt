use Rattle.std.proofs.Common.{◌<◌, length, subst, sym, List, ℕ, refl}
use Rattle.trace_crashes.proofs.Common.{root_word}
use Rattle.trace_crashes.proofs.leaving.left_within.Goals as goal

pub has_block-has-requires-clause-root : goal.has_block-has-requires-clause-root
has_block-has-requires-clause-root g c = rw c.root_of.ensures (c.requires.behind.each c.args.done c.in_ok-image.image.items c.in_ok-image.ensures.one).fits

pub has_block-has-requires-clause-inside : goal.has_block-has-requires-clause-inside
has_block-has-requires-clause-inside g c =
    subst (λ (words : List ℕ). root_word c.root_of.result < length words) (sym c.deref.ensures.value) (rw c.root_of.ensures (c.requires.behind.each c.args.done c.in_ok-image.image.items c.in_ok-image.ensures.one).inside)

pub returns : goal.returns
returns g c =
    let told = c.requires.behind.each c.args.done c.in_ok-image.image.items c.in_ok-image.ensures.one in
    rw c.side_by.ensures (record { call = refl; image = c.in_ok-image.ensures.image; whole = told.whole; side = told.side c.has_block-has.result (rw (c.deref.ensures.value, c.root_of.ensures) at c.has_block-has.ensures) })
