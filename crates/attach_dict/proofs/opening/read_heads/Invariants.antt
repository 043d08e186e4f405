use Rattle.pmem_lines.specs.Pmem.{words_of}
use Rattle.attach_dict.specs.Reading.{IsScanned}
use Rattle.attach_dict.proofs.opening.read_heads.Given as goal

abbrev pub invariant-loop-root : goal.invariant-loop-root
invariant-loop-root g l = IsScanned (words_of l.arena.device) l.root l.heads.items l.index
