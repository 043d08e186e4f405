use Rattle.slab_index.proofs.UnfitSets.{AreNoted-fresh, unfit_fresh}
use Rattle.slab_index.proofs.unfit.UnfitSlabs.new.Goals as goal

pub invariant_of-result : goal.invariant_of-result
invariant_of-result c = rw (c.in_ok-words.ensures.items_if_clones_equal (λ y h. h), c.in_ok-noted.ensures.items_if_clones_equal (λ y h. h)) AreNoted-fresh

pub returns : goal.returns
returns c = rw (c.in_ok-words.ensures.items_if_clones_equal (λ y h. h)) unfit_fresh
