use Rattle.std.proofs.Common.{◌≡◌, ◌≢◌, ◌+◌, ◌-◌, ◌^◌, ℕ, List, length, take, ap, arith, ◌∙◌, subst}
use Rattle.std.proofs.lemmas.List.{with_items_is}
use Rattle.std.specs.Vec.{with_items}
use Rattle.attach_dict.specs.declared.index.DictIndex.{DictIndex}
use Rattle.attach_dict.specs.declared.progress.Progress.TheVariants as stages
use Rattle.attach_dict.specs.Calls.{block_words, HasFilled}
use Rattle.attach_dict.specs.Stages.{DictState}
use Rattle.attach_dict.specs.Whole.{state_of}
use Rattle.attach_dict.proofs.Staged.{fill_room, fill_whole, fill_done}
use Rattle.attach_dict.proofs.dict.Dict.fill.Goals as goal

pub overflow_add-number : goal.overflow_add-number
overflow_add-number g c =
    let s = c.self.inside in
    let room : c.greatest-number.result ≢ 2 ^ 64 - 1 = fill_room s.arena s.arena s.index s.index s.key s.progress c.self.invariant c.args.value.now c.requires.key (rw (← c.self.view_is) at c.requires.is) c.greatest-number.result c.greatest-number.ensures in
    omega (arith, room, c.greatest-number.type_inv)

pub invariant_of-self : goal.invariant_of-self
invariant_of-self g c =
    let s = c.self.inside in
    let size : length c.lay_out.new.block ≡ s.index.block.len = omega (arith, c.lay_out.auto.block, ap (λ (xs : List ℕ). length xs) c.deref_mut.ensures.value, s.index.block.ok.0) in
    let items = with_items_is s.index.block c.lay_out.new.block size in
    let wide : length (with_items s.index.block c.lay_out.new.block).items ≡ 512 = ap (λ (xs : List ℕ). length xs) items ∙ (size ∙ (s.index.block.ok.0 ∙ c.self.invariant.indexes.wide)) in
    let after : DictIndex = record { keys = s.index.keys; numbers = s.index.numbers; free = s.index.free; stale = s.index.stale; block = with_items s.index.block c.lay_out.new.block } in
    let words_are : take (3 + length c.args.value.now) c.deref.result.now ≡ block_words s.key (c.greatest-number.result + 1) c.args.value.now =
    ap (λ (xs : List ℕ). take (3 + length c.args.value.now) xs) (c.deref.ensures.value ∙ items) ∙ c.lay_out.ensures in
    fill_whole s.arena c.fill_block.new.arena s.index after s.key s.progress c.self.invariant c.args.value.now c.requires.key (rw (← c.self.view_is) at c.requires.is) c.greatest-number.result c.greatest-number.ensures wide (take (3 + length c.args.value.now) c.deref.result.now) words_are
    c.fill_block.ensures

pub returns-clause-filled : goal.returns-clause-filled
returns-clause-filled g c = λ key phase.
    let s = c.self.inside in
    let size : length c.lay_out.new.block ≡ s.index.block.len = omega (arith, c.lay_out.auto.block, ap (λ (xs : List ℕ). length xs) c.deref_mut.ensures.value, s.index.block.ok.0) in
    let items = with_items_is s.index.block c.lay_out.new.block size in
    let wide : length (with_items s.index.block c.lay_out.new.block).items ≡ 512 = ap (λ (xs : List ℕ). length xs) items ∙ (size ∙ (s.index.block.ok.0 ∙ c.self.invariant.indexes.wide)) in
    let after : DictIndex = record { keys = s.index.keys; numbers = s.index.numbers; free = s.index.free; stale = s.index.stale; block = with_items s.index.block c.lay_out.new.block } in
    let words_are : take (3 + length c.args.value.now) c.deref.result.now ≡ block_words s.key (c.greatest-number.result + 1) c.args.value.now =
    ap (λ (xs : List ℕ). take (3 + length c.args.value.now) xs) (c.deref.ensures.value ∙ items) ∙ c.lay_out.ensures in
    subst (λ (d : DictState). HasFilled d (state_of c.fill_block.new.arena after s.key stages.Filled) key c.args.value.now) c.self.view_is
    (fill_done s.arena c.fill_block.new.arena s.index after s.key s.progress c.self.invariant c.args.value.now c.requires.key (rw (← c.self.view_is) at c.requires.is) c.greatest-number.result c.greatest-number.ensures wide (take (3 + length c.args.value.now) c.deref.result.now) words_are
    c.fill_block.ensures key (rw (← c.self.view_is) at phase))

pub returns-clause-kept : goal.returns-clause-kept
returns-clause-kept g c =
    let s = c.self.inside in
    let size : length c.lay_out.new.block ≡ s.index.block.len = omega (arith, c.lay_out.auto.block, ap (λ (xs : List ℕ). length xs) c.deref_mut.ensures.value, s.index.block.ok.0) in
    let items = with_items_is s.index.block c.lay_out.new.block size in
    let wide : length (with_items s.index.block c.lay_out.new.block).items ≡ 512 = ap (λ (xs : List ℕ). length xs) items ∙ (size ∙ (s.index.block.ok.0 ∙ c.self.invariant.indexes.wide)) in
    let after : DictIndex = record { keys = s.index.keys; numbers = s.index.numbers; free = s.index.free; stale = s.index.stale; block = with_items s.index.block c.lay_out.new.block } in
    let words_are : take (3 + length c.args.value.now) c.deref.result.now ≡ block_words s.key (c.greatest-number.result + 1) c.args.value.now =
    ap (λ (xs : List ℕ). take (3 + length c.args.value.now) xs) (c.deref.ensures.value ∙ items) ∙ c.lay_out.ensures in
    (fill_whole s.arena c.fill_block.new.arena s.index after s.key s.progress c.self.invariant c.args.value.now c.requires.key (rw (← c.self.view_is) at c.requires.is) c.greatest-number.result c.greatest-number.ensures wide (take (3 + length c.args.value.now) c.deref.result.now) words_are
    c.fill_block.ensures).kept
