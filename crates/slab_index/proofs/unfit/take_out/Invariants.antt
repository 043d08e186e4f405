use Rattle.slab_index.specs.Unfit.{IsForgottenBelow}
use Rattle.slab_index.proofs.unfit.take_out.Given as goal

-- the slab is out of the numbers of the classes before
abbrev pub invariant-loop-class : goal.invariant-loop-class
invariant-loop-class l = IsForgottenBelow l.initial.words l.start l.class l.words
