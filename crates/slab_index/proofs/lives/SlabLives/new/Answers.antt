use Rattle.std.proofs.Common.{ap, ◌∙◌}
use Rattle.slab_index.specs.LivesKept.{class_if}
use Rattle.slab_index.proofs.Counted.{normal_at-is}
use Rattle.slab_index.proofs.lives.SlabLives.new.Goals as goal

pub returns-clause-normal : goal.returns-clause-normal
returns-clause-normal c s = normal_at-is c.in_ok-counts.counts c.in_ok-normal.normal c.in_ok-unfit.unfit s ∙ ap class_if (c.in_ok-normal.ensures.none s)
