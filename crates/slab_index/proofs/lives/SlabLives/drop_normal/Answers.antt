use Rattle.std.proofs.Common.{None, ap, ◌∙◌}
use Rattle.heap_model.specs.Machine.{with_key}
use Rattle.slab_index.specs.Lives.{Lives, normal_at}
use Rattle.slab_index.proofs.Counted.{class_with, normal_at-is, classes_with}
use Rattle.slab_index.proofs.lives.SlabLives.drop_normal.Goals as goal

pub returns-clause-normal : goal.returns-clause-normal
returns-clause-normal c s =
    normal_at-is c.self.inside.counts c.remove.new.self _ s
    ∙ class_with c.self.inside.normal c.remove.new.self c.args.start None c.remove.ensures.normal s
    ∙ classes_with c.self.inside.counts c.self.inside.normal c.self.inside.unfit c.args.start None s
    ∙ ap (λ (l : Lives). with_key (normal_at l) c.args.start None s) c.self.view_is
