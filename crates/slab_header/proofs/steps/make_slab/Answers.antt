use Rattle.std.proofs.Common.{◌/◌, List, ℕ, sym, subst, arith}
use Rattle.pmem_lines.specs.declared.event.Event.{Event}
use Rattle.pmem_lines.specs.Pmem.{words_of, Appends}
use Rattle.pmem_lines.proofs.States.{then_step}
use Rattle.pmem_lines.proofs.Steps.{step_of}
use Rattle.slab_header.specs.declared.state.SlabState.TheVariants.{Normal}
use Rattle.slab_header.specs.State.{SaysOfState}
use Rattle.slab_header.specs.Steps.{IsMade}
use Rattle.slab_header.proofs.Making.{made_lines-is, make_events-parts, IsQuiet-make, make_crash, made}
use Rattle.slab_header.proofs.steps.make_slab.Goals as goal

pub returns-clause-step : goal.returns-clause-step
returns-clause-step g c =
    let state = g.P.Pmem.state in
    let stored = then_step c.store_words.ensures.appends c.store.ensures in
    let flushed = then_step stored c.flush_lines.ensures.appends in
    step_of
    (subst (λ (es : List Event). Appends (state c.args.p.now) (state c.fence.new.self) es)
    (make_events-parts c.args.at c.args.class c.slab_header_at.ensures c.clear_bitmap-clear.ensures.words (omega (arith, c.slab_header_at-2.ensures)) c.state_word-state.ensures.word made_lines-is)
    (then_step flushed c.fence.ensures))
    (IsQuiet-make c.args.at c.args.class (omega arith)) c.requires.quiet
    (make_crash (words_of (state c.args.p.now)) c.args.at c.args.class c.requires.aligned)

pub returns-clause-made : goal.returns-clause-made
returns-clause-made g c =
    let words = words_of (g.P.Pmem.state c.args.p.now) in
    subst (λ (ws : List ℕ). IsMade words ws (c.args.at / 16384) c.args.class) (sym (returns-clause-step g c).appends.words) (made words c.args.at c.args.class c.requires.aligned c.requires.inside (subst (λ w. SaysOfState w (Normal c.args.class)) c.state_word-state.ensures.word c.state_word-state.ensures.says))
