use Rattle.std.proofs.Common.{subst}
use Rattle.attach_dict.specs.declared.progress.Progress.TheVariants as stages
use Rattle.attach_dict.specs.Calls.{HasCancelled}
use Rattle.attach_dict.specs.Stages.{DictState}
use Rattle.attach_dict.specs.Whole.{state_of}
use Rattle.attach_dict.proofs.Staged.{whole_cancelled, has_cancelled}
use Rattle.attach_dict.proofs.dict.Dict.cancel.Goals as goal

pub invariant_of-self : goal.invariant_of-self
invariant_of-self g c = let s = c.self.inside in whole_cancelled s.arena c.free_block.new.arena s.index s.key s.progress c.self.invariant (rw (← c.self.view_is) at c.requires) c.free_block.ensures

pub returns-clause-cancelled : goal.returns-clause-cancelled
returns-clause-cancelled g c =
    let s = c.self.inside in
    subst (λ (d : DictState). HasCancelled d (state_of c.free_block.new.arena s.index s.key stages.Idle)) c.self.view_is
    (has_cancelled s.arena c.free_block.new.arena s.index s.key s.progress c.self.invariant (rw (← c.self.view_is) at c.requires) c.free_block.ensures)

pub returns-clause-kept : goal.returns-clause-kept
returns-clause-kept g c = let s = c.self.inside in (whole_cancelled s.arena c.free_block.new.arena s.index s.key s.progress c.self.invariant (rw (← c.self.view_is) at c.requires) c.free_block.ensures).kept
