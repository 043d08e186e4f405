use Rattle.std.proofs.Common.{◌≡◌, ◌+◌, ◌*◌, ◌/◌, ◌≤◌, ◌∙◌, List, ℕ, ⊎_elim, inl, inr, ap, sym, subst, length, arith}
use Rattle.slab_morph.proofs.Common.{word_at, put_word, words_of, granule_word, blocks_place, IsStateWord, state_word, word_of_state, SaysOfState}
use Rattle.durable_steps.proofs.Steps.{word_step}
use Rattle.slab_morph.specs.Stages.{with_state, IsOffState, Changes}
use Rattle.slab_morph.proofs.StateEvents.{told_off, told_changes, told_valid}
use Rattle.slab_morph.proofs.state.put_state.Given as given
use Rattle.slab_morph.proofs.state.put_state.Goals as goal

place : (g : given.Over) (c : goal.After-write_word g) → c.slab_header_at.result ≡ 8 * state_word (c.args.slab / 16384)
place g c = omega (arith, c.slab_header_at.ensures)

inside : (g : given.Over) (c : goal.After-write_word g) → granule_word (c.args.slab / 16384) + blocks_place ≤ length (words_of (g.P.Pmem.state c.args.p.now))
inside g c = omega arith

says : (g : given.Over) (c : goal.After-write_word g) → SaysOfState (word_of_state c.args.state) c.args.state
says g c = subst (λ w. SaysOfState w c.args.state) c.state_word.ensures.word c.state_word.ensures.says

left : (g : given.Over) (c : goal.After-write_word g) → words_of (g.P.Pmem.state c.write_word.new.device) ≡ put_word (words_of (g.P.Pmem.state c.args.p.now)) (state_word (c.args.slab / 16384)) (word_of_state c.args.state)
left g c =
    let here : c.slab_header_at.result / 8 ≡ state_word (c.args.slab / 16384) = omega (arith, place g c) in
    c.write_word.ensures.appends.words ∙ (λ i. put_word (words_of (g.P.Pmem.state c.args.p.now)) (here i) (c.state_word.ensures.word i))

pub returns-clause-told : goal.returns-clause-told
returns-clause-told g c =
    let words = words_of (g.P.Pmem.state c.args.p.now) in
    subst (λ (ws : List ℕ). Changes words ws (c.args.slab / 16384) (λ h. with_state h c.args.state)) (sym (left g c)) (told_changes words (c.args.slab / 16384) c.args.state (inside g c) (says g c))

pub returns-clause-valid : goal.returns-clause-valid
returns-clause-valid g c =
    subst (λ (ws : List ℕ). IsStateWord (word_at ws (state_word (c.args.slab / 16384)))) (sym (left g c)) (told_valid (words_of (g.P.Pmem.state c.args.p.now)) (c.args.slab / 16384) c.args.state (inside g c) (says g c))

pub returns-clause-others : goal.returns-clause-others
returns-clause-others g c =
    let words = words_of (g.P.Pmem.state c.args.p.now) in
    subst (IsOffState words (c.args.slab / 16384)) (sym (left g c)) (told_off words (c.args.slab / 16384) c.args.state (inside g c) (says g c))

pub returns-clause-step : goal.returns-clause-step
returns-clause-step g c =
    let words = words_of (g.P.Pmem.state c.args.p.now) in
    let here : 8 * state_word (c.args.slab / 16384) / 8 ≡ state_word (c.args.slab / 16384) = omega arith in
    word_step c.slab_header_at.result c.state_word.result (place g c) c.state_word.ensures.word
    (λ image either. ⊎_elim (λ same. inl same) (λ new. inr (new ∙ ap (λ k. put_word words k (word_of_state c.args.state)) here ∙ sym (left g c))) either.is)
    c.write_word.ensures
