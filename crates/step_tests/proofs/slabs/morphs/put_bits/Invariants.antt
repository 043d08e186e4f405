use Rattle.std.proofs.Common.{◌≡◌, length}
use Rattle.pmem_lines.specs.Pmem.{words_of}
use Rattle.step_tests.proofs.slabs.morphs.put_bits.Given as goal

abbrev pub invariant-loop-i : goal.invariant-loop-i
invariant-loop-i g l = length (words_of (g.P.Pmem.state l.p)) ≡ length (words_of (g.P.Pmem.state l.fn.p))
