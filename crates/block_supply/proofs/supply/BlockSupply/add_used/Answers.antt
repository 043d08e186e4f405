use Rattle.std.proofs.Common.{◌≡◌, ◌<◌, false, sym, subst}
use Rattle.bit_words.specs.Numbers.{has as has_number}
use Rattle.size_classes.specs.Classes.{class_capacity}
use Rattle.block_supply.specs.Supply.{Supply}
use Rattle.block_supply.proofs.Slabs.{IsVacant, added_all, added_but, kept_added, more_added}
use Rattle.block_supply.proofs.supply.BlockSupply.add_used.Goals as goal

pub invariant_of-self : goal.invariant_of-self
invariant_of-self c =
    let vacant = subst (λ (s : Supply). IsVacant s c.args.start) (sym c.self.view_is) (record { inside = c.requires.inside; fresh = c.requires.fresh; clear = c.requires.clear }) in
    kept_added (record { slabs = c.self.inside.slabs; stacks = c.self.inside.caches }) c.self.invariant c.args.start c.args.class (λ i. (i < class_capacity c.args.class) × (has_number c.args.used.now i ≡ false)) c.take_all.new.self vacant c.requires.class (λ i both. both.0)
    (added_but c.self.inside.slabs c.add.new.self c.take_all.new.self c.args.start c.args.class c.args.used.now (added_all c.self.inside.slabs c.add.new.self c.args.start c.args.class c.add.ensures.granules c.add.ensures.classes c.add.ensures.blocks) c.take_all.ensures.granules c.take_all.ensures.classes c.take_all.ensures.blocks)

pub returns : goal.returns
returns c =
    let vacant = subst (λ (s : Supply). IsVacant s c.args.start) (sym c.self.view_is) (record { inside = c.requires.inside; fresh = c.requires.fresh; clear = c.requires.clear }) in
    rw (sym c.self.view_is)
    (more_added (record { slabs = c.self.inside.slabs; stacks = c.self.inside.caches }) c.self.invariant c.args.start c.args.class (λ i. (i < class_capacity c.args.class) × (has_number c.args.used.now i ≡ false)) c.take_all.new.self vacant c.requires.class (λ i both. both.0)
    (added_but c.self.inside.slabs c.add.new.self c.take_all.new.self c.args.start c.args.class c.args.used.now (added_all c.self.inside.slabs c.add.new.self c.args.start c.args.class c.add.ensures.granules c.add.ensures.classes c.add.ensures.blocks) c.take_all.ensures.granules c.take_all.ensures.classes c.take_all.ensures.blocks))
