use Rattle.std.proofs.Common.{◌≡◌, ℕ, Some, sym, ap, ◌∙◌, subst, arith}
use Rattle.block_supply.proofs.Common.{without_slab, class_in, stacks_of}
use Rattle.block_supply.specs.Supply.{Supply}
use Rattle.block_supply.proofs.Slabs.{kept_removed, less_removed}
use Rattle.block_supply.proofs.supply.BlockSupply.remove.Goals as goal

pub invariant_of-self : goal.invariant_of-self
invariant_of-self c =
    let slab = subst (λ (s : Supply). (k : ℕ) × (class_in s.slabs c.args.start ≡ Some k)) (sym c.self.view_is) (c.requires.class, c.requires.is) in
    let purged : stacks_of c.purge_slab.new.self ≡ without_slab (stacks_of c.self.inside.caches) c.args.start = c.purge_slab.ensures.stacks ∙ ap (without_slab (stacks_of c.self.inside.caches)) (omega (arith, c.granule_at.ensures)) in
    kept_removed (record { slabs = c.self.inside.slabs; stacks = c.self.inside.caches }) c.self.invariant c.args.start slab c.remove.new.self c.purge_slab.new.self c.purge_slab.ensures.distinct c.remove.ensures.granules c.remove.ensures.classes c.remove.ensures.blocks purged

pub returns : goal.returns
returns c =
    let slab = subst (λ (s : Supply). (k : ℕ) × (class_in s.slabs c.args.start ≡ Some k)) (sym c.self.view_is) (c.requires.class, c.requires.is) in
    let purged : stacks_of c.purge_slab.new.self ≡ without_slab (stacks_of c.self.inside.caches) c.args.start = c.purge_slab.ensures.stacks ∙ ap (without_slab (stacks_of c.self.inside.caches)) (omega (arith, c.granule_at.ensures)) in
    rw (sym c.self.view_is)
    (less_removed (record { slabs = c.self.inside.slabs; stacks = c.self.inside.caches }) c.self.invariant c.args.start slab c.remove.new.self c.purge_slab.new.self c.purge_slab.ensures.distinct c.remove.ensures.granules c.remove.ensures.classes c.remove.ensures.blocks purged)
