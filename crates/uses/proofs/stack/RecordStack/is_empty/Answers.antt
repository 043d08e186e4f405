use Rattle.pmem_lines.specs.Pmem.{words_of}
use Rattle.uses.proofs.Counted.{counted_empty}
use Rattle.uses.proofs.stack.RecordStack.is_empty.Goals as goal

pub returns : goal.returns
returns g c = rw (← c.self.view_is) (counted_empty (words_of c.self.inside.arena.device) c.self.inside.depth)
