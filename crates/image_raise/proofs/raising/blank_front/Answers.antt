use Rattle.std.proofs.Common.{sym, subst}
use Rattle.pmem_lines.specs.Words.{zeros, AreZeros}
use Rattle.pmem_lines.proofs.Words.{AreZeros-zeros}
use Rattle.image_raise.proofs.raising.blank_front.Goals as goal

pub returns-clause-zeros : goal.returns-clause-zeros
unfolding zeros
returns-clause-zeros c = subst AreZeros (sym (c.in_ok-front.ensures.items_if_clones_equal (λ y same. same))) (AreZeros-zeros _)
