use Rattle.std.proofs.Common.{refl, subst}
use Rattle.attach_dict.specs.Calls.{HasTidied}
use Rattle.attach_dict.specs.Stages.{DictState}
use Rattle.attach_dict.specs.Whole.{state_of}
use Rattle.attach_dict.proofs.Freed.{tidy_some, may_drop, whole_behind, tidied_behind, none_found}
use Rattle.attach_dict.proofs.dict.Dict.tidy.Goals as goal

pub free_block-requires : goal.free_block-requires
free_block-requires g c = let s = c.self.inside in tidy_some s.arena s.index s.key s.progress c.self.invariant c.in-Some.root c.in-Some.ensures.here

pub drop_stale-requires : goal.drop_stale-requires
drop_stale-requires g c = let s = c.self.inside in may_drop s.arena s.index s.key s.progress c.self.invariant c.in-Some.root c.in-Some.ensures.here

pub invariant_of-self : goal.invariant_of-self
invariant_of-self g c = let s = c.self.inside in whole_behind s.arena s.index s.key s.progress c.self.invariant c.in-Some.root c.in-Some.ensures.here c.free_block.new.arena c.drop_stale.new.self c.free_block.ensures c.drop_stale.ensures

pub returns-in-Some-clause-tidied : goal.returns-in-Some-clause-tidied
returns-in-Some-clause-tidied g c =
    let s = c.self.inside in
    subst (λ (d : DictState). HasTidied d (state_of c.free_block.new.arena c.drop_stale.new.self s.key s.progress)) c.self.view_is
    (tidied_behind s.arena s.index s.key s.progress c.self.invariant c.in-Some.root c.in-Some.ensures.here c.free_block.new.arena c.drop_stale.new.self c.free_block.ensures c.drop_stale.ensures c.in-Some.ensures)

pub returns-in-Some-clause-kept : goal.returns-in-Some-clause-kept
returns-in-Some-clause-kept g c =
    let s = c.self.inside in
    (whole_behind s.arena s.index s.key s.progress c.self.invariant c.in-Some.root c.in-Some.ensures.here c.free_block.new.arena c.drop_stale.new.self c.free_block.ensures c.drop_stale.ensures).kept

pub returns-in-None-clause-tidied : goal.returns-in-None-clause-tidied
returns-in-None-clause-tidied g c = let s = c.self.inside in (rw (← c.self.view_is) (none_found s.arena s.index s.key s.progress c.self.invariant c.in-None.ensures), refl)
