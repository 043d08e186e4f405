use Rattle.std.proofs.Common.{◌-◌, refl, subst}
use Rattle.pmem_lines.specs.Pmem.{words_of}
use Rattle.uses.specs.Stack.{StackState}
use Rattle.uses.specs.Calls.{HasPopped}
use Rattle.uses.proofs.Counted.{counted_none}
use Rattle.uses.proofs.Pushing.{state_of}
use Rattle.uses.proofs.Removing.{top_some, popped_top, kept_top}
use Rattle.uses.proofs.stack.RecordStack.pop.Goals as goal

pub returns-then-self-eq0-clause-popped : goal.returns-then-self-eq0-clause-popped
returns-then-self-eq0-clause-popped g c = (rw (← c.self.view_is) (counted_none (words_of c.self.inside.arena.device) c.self.inside.depth c.if-self-eq0.true), refl)

pub release_block-requires : goal.release_block-requires
release_block-requires g c = top_some c.self.inside.arena c.self.inside.depth c.if-self-eq0.false c.self.invariant

pub invariant_of-self : goal.invariant_of-self
invariant_of-self g c = kept_top c.self.inside.arena c.self.inside.depth c.if-self-eq0.false c.self.invariant c.release_block.new.arena c.release_block.ensures

pub returns-clause-popped : goal.returns-clause-popped
returns-clause-popped g c =
    subst (λ (s : StackState). HasPopped s (state_of c.release_block.new.arena (c.self.inside.depth - 1))) c.self.view_is
    (popped_top c.self.inside.arena c.self.inside.depth c.if-self-eq0.false c.self.invariant c.release_block.new.arena c.release_block.ensures)

pub returns-clause-kept : goal.returns-clause-kept
returns-clause-kept g c = kept_top c.self.inside.arena c.self.inside.depth c.if-self-eq0.false c.self.invariant c.release_block.new.arena c.release_block.ensures
