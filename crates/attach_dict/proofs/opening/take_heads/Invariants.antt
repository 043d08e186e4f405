use Rattle.attach_dict.specs.Heads.{AreTakenTo, KeepsRest}
use Rattle.attach_dict.proofs.opening.take_heads.Given as goal

abbrev pub invariant-loop-place : goal.invariant-loop-place
invariant-loop-place l = record { taken : AreTakenTo l.heads l.place l.index; rest : KeepsRest l.fn.index l.index }
