use Rattle.std.proofs.Common.{◌≡◌, ◌*◌, ◌/◌, List, [], ◌∷◌, ◌++◌, subst, arith}
use Rattle.settle_steps.proofs.Common.{Event, words_of, Appends, then_step, step_of, IsQuiet-word, word_crash, index_word, word_of_index, put_events}
use Rattle.pmem_lines.specs.declared.event.Event.TheVariants.{Fence}
use Rattle.settle_steps.proofs.old_block.mark_live.Goals as goal

pub returns-clause-step : goal.returns-clause-step
returns-clause-step g c =
    let state = g.P.Pmem.state in
    let at = 8 * index_word c.args.block.start c.args.block.place in
    let value = word_of_index c.args.e in
    let start : c.granule_at.result / 16384 ≡ c.args.block.start = omega (arith, c.granule_at.ensures) in
    step_of
    (subst (λ (es : List Event). Appends (state c.args.p.now) (state c.fence.new.self) es)
    (λ i. put_events (8 * index_word (start i) c.args.block.place) (word_of_index c.args.e) ++ Fence ∷ [])
    (then_step c.put_index.ensures.appends c.fence.ensures))
    (IsQuiet-word at value) c.requires.quiet
    (word_crash (words_of (state c.args.p.now)) at value)
