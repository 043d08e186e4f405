use Rattle.std.proofs.Common.{sym}
use Rattle.pmem_lines.specs.Pmem.{words_of}
use Rattle.uses.proofs.Counted.{length-records_in}
use Rattle.uses.proofs.stack.RecordStack.len.Goals as goal

pub returns-clause-count : goal.returns-clause-count
returns-clause-count g c = rw (← c.self.view_is) (sym (length-records_in (words_of c.self.inside.arena.device) c.self.inside.depth))
