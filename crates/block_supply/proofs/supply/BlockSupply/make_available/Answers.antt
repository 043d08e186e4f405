use Rattle.std.proofs.Common.{◌≡◌, Some, sym, subst}
use Rattle.slab_index.specs.SlabSet.{class_in}
use Rattle.block_supply.specs.Supply.{Supply, MayBeGiven}
use Rattle.block_supply.proofs.Returns.{kept_free, with_free}
use Rattle.block_supply.proofs.supply.BlockSupply.make_available.Goals as goal

pub invariant_of-self : goal.invariant_of-self
invariant_of-self c =
    let slab = subst (λ (s : Supply). class_in s.slabs c.args.start ≡ Some c.requires.block.class) (sym c.self.view_is) c.requires.block.slab in
    let used = subst (λ (s : Supply). ¬ (MayBeGiven s c.args.start c.args.number)) (sym c.self.view_is) c.requires.used in
    kept_free (record { slabs = c.self.inside.slabs; stacks = c.self.inside.caches }) c.self.invariant c.requires.block.class c.args.start c.args.number slab c.requires.block.below used c.give.new.self c.give.ensures.granules c.give.ensures.classes c.give.ensures.blocks

pub returns-clause-block : goal.returns-clause-block
returns-clause-block c =
    let slab = subst (λ (s : Supply). class_in s.slabs c.args.start ≡ Some c.requires.block.class) (sym c.self.view_is) c.requires.block.slab in
    let used = subst (λ (s : Supply). ¬ (MayBeGiven s c.args.start c.args.number)) (sym c.self.view_is) c.requires.used in
    rw (sym c.self.view_is) (with_free (record { slabs = c.self.inside.slabs; stacks = c.self.inside.caches }) c.self.invariant c.requires.block.class c.args.start c.args.number slab c.requires.block.below used c.give.new.self c.give.ensures.granules c.give.ensures.classes c.give.ensures.blocks)
