use Rattle.pmem_lines.specs.Pmem.{words_of}
use Rattle.uses.proofs.Counted.{counted_none}
use Rattle.uses.proofs.Removing.{viewed, lent}
use Rattle.uses.proofs.stack.RecordStack.top.Goals as goal

pub returns-then-self-eq0 : goal.returns-then-self-eq0
returns-then-self-eq0 g c = rw (← c.self.view_is) (counted_none (words_of c.self.inside.arena.device) c.self.inside.depth c.if-self-eq0.true)

pub returns-in-Ok : goal.returns-in-Ok
returns-in-Ok g c = rw (← c.self.view_is) (viewed c.self.inside.arena c.self.inside.depth c.if-self-eq0.false c.self.invariant _ c.in-Ok.ensures.view)

pub returns-in-Err : goal.returns-in-Err
returns-in-Err g c = absurd (lent c.self.inside.arena c.self.inside.depth c.if-self-eq0.false c.self.invariant c.in-Err.field-0 c.in-Err.ensures.view)
