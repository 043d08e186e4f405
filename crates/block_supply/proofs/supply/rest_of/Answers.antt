use Rattle.std.proofs.Common.{◌<◌, ℕ, List, slice_index_or, subst, sym, arith}
use Rattle.size_classes.specs.Classes.{class_capacity}
use Rattle.block_supply.proofs.Lists.{Has-index}
use Rattle.block_supply.proofs.supply.rest_of.Goals as goal

pub address_of-requires-clause-within : goal.address_of-requires-clause-within
address_of-requires-clause-within c = subst (λ (xs : List ℕ). slice_index_or xs c.loop-i.i 0 < class_capacity c.args.class) (sym c.deref.ensures.0) (c.requires.within _ (Has-index c.args.blocks.now.numbers.items c.loop-i.i (omega (arith, c.loop-i-test.true, c.len-i-end.ensures.value))))

pub push-requires : goal.push-requires
push-requires c = omega (arith, c.loop-i.invariant.count, c.loop-i-test.true, c.len-i-end.ensures.fits)
