use Rattle.std.proofs.Common.{◌≢◌, ◌-◌, ◌^◌, arith, subst}
use Rattle.pmem_lines.specs.Pmem.{words_of}
use Rattle.attach_dict.specs.declared.progress.Progress.TheVariants as stages
use Rattle.attach_dict.specs.Calls.{HasPublished}
use Rattle.attach_dict.specs.Dict.{IsFreeRoot}
use Rattle.attach_dict.specs.Stages.{DictState, HasFilledPhase}
use Rattle.attach_dict.specs.View.{phase_in}
use Rattle.attach_dict.specs.Whole.{state_of}
use Rattle.attach_dict.proofs.Published.{publish_some, publish_free, publish_room, publish_may, publish_whole, published}
use Rattle.attach_dict.proofs.dict.Dict.publish.Goals as goal

pub unwrap-root-requires : goal.unwrap-root-requires
unwrap-root-requires g c =
    let s = c.self.inside in
    let filled : HasFilledPhase (phase_in (words_of s.arena.device) s.key s.progress) = rw (← c.self.view_is) at c.requires in
    publish_some s.arena s.index s.key s.progress c.self.invariant filled c.lowest.result c.lowest.ensures

pub overflow_add-number : goal.overflow_add-number
overflow_add-number g c =
    let s = c.self.inside in
    let filled : HasFilledPhase (phase_in (words_of s.arena.device) s.key s.progress) = rw (← c.self.view_is) at c.requires in
    let room : c.greatest-number.result ≢ 2 ^ 64 - 1 = publish_room s.arena s.index s.key s.progress c.self.invariant filled c.greatest-number.result c.greatest-number.ensures in
    omega (arith, room, c.greatest-number.type_inv)

pub put_pair-requires : goal.put_pair-requires
put_pair-requires g c =
    let s = c.self.inside in
    let filled : HasFilledPhase (phase_in (words_of s.arena.device) s.key s.progress) = rw (← c.self.view_is) at c.requires in
    let free : IsFreeRoot (words_of s.arena.device) c.unwrap-root.result = publish_free s.arena s.index s.key s.progress c.self.invariant filled c.lowest.result c.unwrap-root.result c.lowest.ensures c.unwrap-root.ensures in
    publish_may s.arena s.index s.key s.progress c.self.invariant filled c.greatest-number.result c.greatest-number.ensures c.unwrap-root.result free

pub invariant_of-self : goal.invariant_of-self
invariant_of-self g c =
    let s = c.self.inside in
    let filled : HasFilledPhase (phase_in (words_of s.arena.device) s.key s.progress) = rw (← c.self.view_is) at c.requires in
    let free : IsFreeRoot (words_of s.arena.device) c.unwrap-root.result = publish_free s.arena s.index s.key s.progress c.self.invariant filled c.lowest.result c.unwrap-root.result c.lowest.ensures c.unwrap-root.ensures in
    publish_whole s.arena s.index s.key s.progress c.self.invariant filled c.greatest-number.result c.greatest-number.ensures c.unwrap-root.result free c.show_block.new.arena c.put_pair.new.self c.show_block.ensures c.put_pair.ensures

pub returns-clause-published : goal.returns-clause-published
returns-clause-published g c = λ key value phase.
    let s = c.self.inside in
    let filled : HasFilledPhase (phase_in (words_of s.arena.device) s.key s.progress) = rw (← c.self.view_is) at c.requires in
    let free : IsFreeRoot (words_of s.arena.device) c.unwrap-root.result = publish_free s.arena s.index s.key s.progress c.self.invariant filled c.lowest.result c.unwrap-root.result c.lowest.ensures c.unwrap-root.ensures in
    subst (λ (d : DictState). HasPublished d (state_of c.show_block.new.arena c.put_pair.new.self s.key stages.Idle) key value) c.self.view_is
    (published s.arena s.index s.key s.progress c.self.invariant filled c.greatest-number.result c.greatest-number.ensures c.unwrap-root.result free c.show_block.new.arena c.put_pair.new.self c.show_block.ensures c.put_pair.ensures key value (rw (← c.self.view_is) at phase))

pub returns-clause-kept : goal.returns-clause-kept
returns-clause-kept g c =
    let s = c.self.inside in
    let filled : HasFilledPhase (phase_in (words_of s.arena.device) s.key s.progress) = rw (← c.self.view_is) at c.requires in
    let free : IsFreeRoot (words_of s.arena.device) c.unwrap-root.result = publish_free s.arena s.index s.key s.progress c.self.invariant filled c.lowest.result c.unwrap-root.result c.lowest.ensures c.unwrap-root.ensures in
    (publish_whole s.arena s.index s.key s.progress c.self.invariant filled c.greatest-number.result c.greatest-number.ensures c.unwrap-root.result free c.show_block.new.arena c.put_pair.new.self c.show_block.ensures c.put_pair.ensures).kept
