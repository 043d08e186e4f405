use Rattle.std.proofs.Common.{◌≡◌, ◌↔◌, IsTrue, ◌/◌, true, true≢false, sym, ◌∙◌, subst, arith}
use Rattle.pmem_lines.specs.Words.{word_at}
use Rattle.pmem_lines.specs.Pmem.{words_of}
use Rattle.image_tables.specs.Forms.{IsStateWord}
use Rattle.image_tables.specs.Tables.{is_slab, state_word, tables_of}
use Rattle.heap_model.specs.Choice.{IsFit}
use Rattle.slab_morph.specs.Fitness.{held_view}
use Rattle.transition_steps.proofs.HeaderImages.{lies_here, is_valid_here}
use Rattle.transition_steps.proofs.Fits.{fit_held, ready}
use Rattle.transition_steps.proofs.fitness.is_ready.Given as given
use Rattle.transition_steps.proofs.fitness.is_ready.Goals as goal

pub fit-requires-clause-valid : goal.fit-requires-clause-valid
fit-requires-clause-valid g c =
    let words = words_of (g.P.Pmem.state c.args.p.now) in
    let start : c.granule_at.result / 16384 ≡ c.args.start = omega (arith, c.granule_at.ensures) in
    subst (λ s. IsStateWord (word_at words (state_word s))) (sym start) (is_valid_here words c.args.start c.requires.image.formed c.requires.image.exact.sound c.requires.slab).state

-- fitness of the slab by what it holds
by_held : (g : given.Over) (c : goal.After-fit g) → let words = words_of (g.P.Pmem.state c.args.p.now) in IsTrue c.fit.result ↔ IsFit (held_view (tables_of words)) c.args.class c.args.start
by_held g c =
    let words = words_of (g.P.Pmem.state c.args.p.now) in
    let start : c.granule_at.result / 16384 ≡ c.args.start = omega (arith, c.granule_at.ensures) in
    subst (λ s. is_slab words s ≡ true → IsTrue c.fit.result ↔ IsFit (held_view (tables_of words)) c.args.class s) start c.fit.ensures.table
    (lies_here words c.args.start c.requires.image.formed c.requires.image.exact.sound c.requires.slab).here

pub returns-clause-ready : goal.returns-clause-ready
returns-clause-ready g c is = ready (words_of (g.P.Pmem.state c.args.p.now)) c.requires.image c.args.start c.args.class c.requires.slab c.requires.normal ((by_held g c).0 is)

pub returns-clause-unfit : goal.returns-clause-unfit
returns-clause-unfit g c denied fit = true≢false (sym ((by_held g c).1 (fit_held (words_of (g.P.Pmem.state c.args.p.now)) c.requires.image c.args.start c.args.class c.requires.slab c.requires.normal fit)) ∙ denied)
