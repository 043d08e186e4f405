use Rattle.std.proofs.Common.{Some, ap, ◌∙◌}
use Rattle.heap_model.specs.Machine.{with_key}
use Rattle.slab_index.specs.Lives.{Lives, normal_at}
use Rattle.slab_index.proofs.Counted.{class_with, normal_at-is, classes_with}
use Rattle.slab_index.proofs.lives.SlabLives.put_normal.Goals as goal

pub returns-clause-normal : goal.returns-clause-normal
returns-clause-normal c s =
    normal_at-is c.self.inside.counts c.put.new.self _ s
    ∙ class_with c.self.inside.normal c.put.new.self c.args.start (Some (record { class = c.args.class; live = c.at.result })) c.put.ensures.normal s
    ∙ classes_with c.self.inside.counts c.self.inside.normal c.self.inside.unfit c.args.start (Some c.args.class) s
    ∙ ap (λ (l : Lives). with_key (normal_at l) c.args.start (Some c.args.class) s) c.self.view_is
