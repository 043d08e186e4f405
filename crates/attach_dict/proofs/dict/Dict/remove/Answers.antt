use Rattle.std.proofs.Common.{◌≡◌, ap, ◌∙◌, subst}
use Rattle.pmem_lines.specs.Pmem.{words_of}
use Rattle.attach_dict.specs.Calls.{HasRemoved}
use Rattle.attach_dict.specs.Stages.{DictState, Idle, AreNoneStale}
use Rattle.attach_dict.specs.View.{phase_in}
use Rattle.attach_dict.specs.Whole.{state_of}
use Rattle.attach_dict.proofs.Common.{KeyRoots}
use Rattle.attach_dict.proofs.Freed.{remove_some, remove_may, whole_less, removed_behind}
use Rattle.attach_dict.proofs.Keys.{row_none}
use Rattle.attach_dict.proofs.dict.Dict.remove.Goals as goal

pub free_block-requires : goal.free_block-requires
free_block-requires g c = let s = c.self.inside in remove_some s.arena s.index s.key s.progress c.self.invariant c.args.key c.in-Some.root c.remove.new.self c.in-Some.ensures

pub release-requires : goal.release-requires
release-requires g c =
    let s = c.self.inside in
    let may = remove_may s.arena s.index s.key s.progress c.self.invariant c.args.key c.in-Some.root c.remove.new.self c.in-Some.ensures in
    record { numbered = may.numbered; low = may.low; out = may.out }

pub invariant_of-self : goal.invariant_of-self
invariant_of-self g c =
    let s = c.self.inside in
    let idle : phase_in (words_of s.arena.device) s.key s.progress ≡ Idle = rw (← c.self.view_is) at c.requires.idle in
    let tidy : AreNoneStale (words_of s.arena.device) Idle = rw (← c.self.view_is) at c.requires.tidy in
    whole_less s.arena s.index s.key s.progress c.self.invariant c.args.key c.in-Some.root c.remove.new.self c.in-Some.ensures c.free_block.new.arena c.release.new.self c.free_block.ensures c.release.ensures idle tidy

pub returns-in-Some-clause-removed : goal.returns-in-Some-clause-removed
returns-in-Some-clause-removed g c =
    let s = c.self.inside in
    let idle : phase_in (words_of s.arena.device) s.key s.progress ≡ Idle = rw (← c.self.view_is) at c.requires.idle in
    let tidy : AreNoneStale (words_of s.arena.device) Idle = rw (← c.self.view_is) at c.requires.tidy in
    subst (λ (d : DictState). HasRemoved d (state_of c.free_block.new.arena c.release.new.self s.key s.progress) c.args.key) c.self.view_is
    (removed_behind s.arena s.index s.key s.progress c.self.invariant c.args.key c.in-Some.root c.remove.new.self c.in-Some.ensures c.free_block.new.arena c.release.new.self c.free_block.ensures c.release.ensures idle tidy)

pub returns-in-Some-clause-kept : goal.returns-in-Some-clause-kept
returns-in-Some-clause-kept g c =
    let s = c.self.inside in
    let idle : phase_in (words_of s.arena.device) s.key s.progress ≡ Idle = rw (← c.self.view_is) at c.requires.idle in
    let tidy : AreNoneStale (words_of s.arena.device) Idle = rw (← c.self.view_is) at c.requires.tidy in
    (whole_less s.arena s.index s.key s.progress c.self.invariant c.args.key c.in-Some.root c.remove.new.self c.in-Some.ensures c.free_block.new.arena c.release.new.self c.free_block.ensures c.release.ensures idle tidy).kept

pub returns-in-None-clause-removed : goal.returns-in-None-clause-removed
returns-in-None-clause-removed g c =
    let s = c.self.inside in (
      rw (← c.self.view_is) (row_none (words_of s.arena.device) s.index.keys c.self.invariant.indexes.tables.keys_are.sound c.args.key c.in-None.ensures.0),
      ap (λ (k : KeyRoots). state_of s.arena (record { keys = k; numbers = s.index.numbers; free = s.index.free; stale = s.index.stale; block = s.index.block }) s.key s.progress) c.in-None.ensures.1 ∙ c.self.view_is,
    )
