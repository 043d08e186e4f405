use Rattle.std.proofs.Common.{arith}
use Rattle.defect_search.proofs.shared.first_pair.Goals as goal

pub returns : goal.returns
returns c = record { none = λ i j clash. (c.loop-i.invariant i (omega (arith, clash.first))).none j clash }
