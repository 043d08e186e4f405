use Rattle.std.proofs.Common.{sym, ap, ◌∙◌}
use Rattle.slab_index.specs.Lives.{Lives, normal_at}
use Rattle.slab_index.proofs.Counted.{normal_at-is}
use Rattle.slab_index.proofs.lives.SlabLives.lower.Goals as goal

pub returns-clause-normal : goal.returns-clause-normal
returns-clause-normal c s = normal_at-is c.lower.new.self c.recount.new.normal _ s ∙ c.recount.ensures.classes s ∙ sym (normal_at-is c.self.inside.counts c.self.inside.normal c.self.inside.unfit s) ∙ ap (λ (l : Lives). normal_at l s) c.self.view_is
