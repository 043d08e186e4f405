use Rattle.attach_dict.proofs.RootSets.{blank_set, blank_none}
use Rattle.attach_dict.proofs.root_set.RootSet.with_room.Goals as goal

pub invariant_of-result : goal.invariant_of-result
invariant_of-result c = let bits = c.in_ok-bits.ensures.items_if_clones_equal (λ y h. h) in rw bits (blank_set c.args.below c.requires)

pub returns : goal.returns
returns c = let bits = c.in_ok-bits.ensures.items_if_clones_equal (λ y h. h) in rw bits (blank_none c.args.below)
