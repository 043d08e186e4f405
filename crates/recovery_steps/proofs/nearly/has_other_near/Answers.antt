use Rattle.std.proofs.Common.{arith}
use Rattle.std.proofs.lemmas.Bool.{false≢true}
use Rattle.recovery_steps.proofs.Arenas.{slab_inside}
use Rattle.recovery_steps.proofs.nearly.has_other_near.Goals as goal

pub returns : goal.returns
returns c = (
  λ e. absurd (false≢true e),
  λ another. absurd (c.loop-start.invariant another.other
      (omega (arith, slab_inside c.args.words.now c.requires.image another.other another.near.slab, c.requires.book.granules, c.granules-start-end.ensures.granules)) another.differ another.near),
)
