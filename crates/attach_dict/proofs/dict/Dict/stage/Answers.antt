use Rattle.std.proofs.Common.{◌≡◌, ◌-◌, ◌^◌, ◌<◌, Result, Err, refl, sym, ap, ◌∙◌, subst, arith}
use Rattle.std.proofs.lemmas.Result.{err_from_is_err_and}
use Rattle.pmem_lines.specs.Pmem.{words_of}
use Rattle.attach_dict.specs.declared.refusal.StageRefusal.{StageRefusal}
use Rattle.attach_dict.specs.declared.progress.Progress.TheVariants as stages
use Rattle.attach_dict.specs.Calls.{HasStaged, IsStagedBy}
use Rattle.attach_dict.specs.Stages.{DictState, Idle, AreNoneStale, HasRoomForPair}
use Rattle.attach_dict.specs.View.{phase_in}
use Rattle.attach_dict.specs.Whole.{state_of}
use Rattle.attach_dict.proofs.Room.{full_counted, not_full, spent}
use Rattle.attach_dict.proofs.Staged.{stage_none, room_here, stage_refused, stage_whole, stage_done}
use Rattle.attach_dict.proofs.dict.Dict.stage.Goals as goal

pub returns-then-len-eq0-clause-staged : goal.returns-then-len-eq0-clause-staged
returns-then-len-eq0-clause-staged g c =
    let s = c.self.inside in (
      rw (← c.self.view_is) (full_counted (words_of s.arena.device) s.index.free c.self.invariant.indexes.tables.free_are c.len.ensures.sound (sym c.len.ensures.count ∙ c.if-len-eq0.true)),
      refl,
    )

pub returns-then-greatest-clause-staged : goal.returns-then-greatest-clause-staged
returns-then-greatest-clause-staged g c =
    let s = c.self.inside in (
      rw (← c.self.view_is) (not_full (words_of s.arena.device) s.index.free c.self.invariant.indexes.tables.free_are c.len.ensures.sound (λ zero. c.if-len-eq0.false (c.len.ensures.count ∙ zero))),
      rw (← c.self.view_is) (spent (words_of s.arena.device) c.self.invariant.kept.exact s.index.keys s.index.numbers s.index.free c.self.invariant.indexes.tables c.greatest.result c.greatest.ensures c.if-greatest.true),
      refl,
    )

pub take_block-requires-clause-none : goal.take_block-requires-clause-none
take_block-requires-clause-none g c = stage_none (words_of c.self.inside.arena.device) (rw (← c.self.view_is) at c.requires.tidy)

pub returns-in_err-take_block-clause-staged : goal.returns-in_err-take_block-clause-staged
returns-in_err-take_block-clause-staged g c =
    let s = c.self.inside in
    let words = words_of s.arena.device in
    let idle : phase_in words s.key s.progress ≡ Idle = rw (← c.self.view_is) at c.requires.idle in
    let tidy : AreNoneStale words Idle = rw (← c.self.view_is) at c.requires.tidy in
    let less : c.greatest.result < 2 ^ 64 - 1 = omega (arith, c.greatest.type_inv, c.if-greatest.false) in
    let room : HasRoomForPair words = room_here s.arena s.index s.key s.progress c.self.invariant c.len.ensures.sound (λ zero. c.if-len-eq0.false (c.len.ensures.count ∙ zero)) c.greatest.result c.greatest.ensures less in
    let p = err_from_is_err_and c.from_residual.result c.from_residual.ensures.1 in
    let is : c.from_residual.result ≡ Err c.in_err-take_block.field-0.0 = p.1 ∙ ap Err p.2 in
    subst (λ (d : DictState). IsStagedBy d (state_of c.take_block.new.arena s.index s.key s.progress) c.args.key c.args.count c.from_residual.result) c.self.view_is
    (subst (λ (r : Result (Unit {0}) StageRefusal). IsStagedBy (state_of s.arena s.index s.key s.progress) (state_of c.take_block.new.arena s.index s.key s.progress) c.args.key c.args.count r) (sym is)
    (stage_refused s.arena c.take_block.new.arena s.index s.key s.progress c.self.invariant idle tidy room c.args.count c.args.key c.in_err-take_block.field-0.0 c.in_err-take_block.ensures))

pub invariant_of-self-2 : goal.invariant_of-self-2
invariant_of-self-2 g c =
    let s = c.self.inside in
    let words = words_of s.arena.device in
    let idle : phase_in words s.key s.progress ≡ Idle = rw (← c.self.view_is) at c.requires.idle in
    let tidy : AreNoneStale words Idle = rw (← c.self.view_is) at c.requires.tidy in
    let less : c.greatest.result < 2 ^ 64 - 1 = omega (arith, c.greatest.type_inv, c.if-greatest.false) in
    let room : HasRoomForPair words = room_here s.arena s.index s.key s.progress c.self.invariant c.len.ensures.sound (λ zero. c.if-len-eq0.false (c.len.ensures.count ∙ zero)) c.greatest.result c.greatest.ensures less in
    stage_whole s.arena c.take_block.new.arena s.index s.key s.progress c.self.invariant idle tidy room c.args.count c.args.key c.requires.few c.in_ok-take_block.ensures

pub returns-clause-staged : goal.returns-clause-staged
returns-clause-staged g c =
    let s = c.self.inside in
    let words = words_of s.arena.device in
    let idle : phase_in words s.key s.progress ≡ Idle = rw (← c.self.view_is) at c.requires.idle in
    let tidy : AreNoneStale words Idle = rw (← c.self.view_is) at c.requires.tidy in
    let less : c.greatest.result < 2 ^ 64 - 1 = omega (arith, c.greatest.type_inv, c.if-greatest.false) in
    let room : HasRoomForPair words = room_here s.arena s.index s.key s.progress c.self.invariant c.len.ensures.sound (λ zero. c.if-len-eq0.false (c.len.ensures.count ∙ zero)) c.greatest.result c.greatest.ensures less in
    subst (λ (d : DictState). HasStaged d (state_of c.take_block.new.arena s.index c.args.key (stages.Staged c.args.count)) c.args.key c.args.count) c.self.view_is
    (stage_done s.arena c.take_block.new.arena s.index s.key s.progress c.self.invariant idle tidy room c.args.count c.args.key c.requires.few c.in_ok-take_block.ensures)

pub returns-clause-kept : goal.returns-clause-kept
returns-clause-kept g c =
    let s = c.self.inside in
    let words = words_of s.arena.device in
    let idle : phase_in words s.key s.progress ≡ Idle = rw (← c.self.view_is) at c.requires.idle in
    let tidy : AreNoneStale words Idle = rw (← c.self.view_is) at c.requires.tidy in
    let less : c.greatest.result < 2 ^ 64 - 1 = omega (arith, c.greatest.type_inv, c.if-greatest.false) in
    let room : HasRoomForPair words = room_here s.arena s.index s.key s.progress c.self.invariant c.len.ensures.sound (λ zero. c.if-len-eq0.false (c.len.ensures.count ∙ zero)) c.greatest.result c.greatest.ensures less in
    (stage_whole s.arena c.take_block.new.arena s.index s.key s.progress c.self.invariant idle tidy room c.args.count c.args.key c.requires.few c.in_ok-take_block.ensures).kept
