use Rattle.std.proofs.Common.{◌≡◌, ◌+◌, length, inr, sym, ap, ◌∙◌, subst}
use Rattle.pmem_lines.specs.Pmem.{words_of, HasRoom}
use Rattle.pmem_lines.proofs.Steps.{step_wider}
use Rattle.slab_header.specs.Morph.{morph_events}
use Rattle.slab_morph.specs.SlabHeaders.{header_at, alone}
use Rattle.slab_morph.specs.Stages.{morphed, morph_count, IsMorphStage, IsMorphable}
use Rattle.slab_morph.proofs.Stages.{keeps_wider}
use Rattle.transition_steps.proofs.HeaderImages.{granule_is, step_here, kept_here}
use Rattle.transition_steps.proofs.ClassImages.{header_is, morphable, leaves_closed, of_class}
use Rattle.transition_steps.proofs.taking.take_class.Goals as goal
use Rattle.image_tables.specs.Tables.{SlabHeader}

pub morph-requires-clause-morphable : goal.morph-requires-clause-morphable
morph-requires-clause-morphable g c =
    let words = words_of (g.P.Pmem.state c.args.p.now) in
    subst (λ s. IsMorphable words s c.args.class) (sym (granule_is c.granule_at.ensures)) (morphable words c.args.start c.args.class c.requires.ready)

pub morph-requires-clause-room : goal.morph-requires-clause-room
morph-requires-clause-room g c =
    let words = words_of (g.P.Pmem.state c.args.p.now) in
    subst (λ s. HasRoom (g.P.Pmem.state c.args.p.now) (morph_count (header_at words s))) (sym (granule_is c.granule_at.ensures))
    (subst (λ (h : SlabHeader). HasRoom (g.P.Pmem.state c.args.p.now) (morph_count h)) (header_is words c.args.start c.args.class c.requires.ready) c.requires.room)

pub returns-clause-step : goal.returns-clause-step
returns-clause-step g c =
    let words = words_of (g.P.Pmem.state c.args.p.now) in
    let class = c.args.class in
    step_wider (leaves_closed words c.args.start class c.requires.ready)
    (step_here (λ start (h : SlabHeader). morph_events (alone h) start class) (λ (h : SlabHeader). IsMorphStage h class) (granule_is c.granule_at.ensures) (header_is words c.args.start class c.requires.ready) c.morph.ensures.step)

pub returns-clause-count : goal.returns-clause-count
returns-clause-count g c =
    let words = words_of (g.P.Pmem.state c.args.p.now) in
    let before = length (g.P.Pmem.state c.args.p.now).events in
    c.morph.ensures.count ∙ ap (λ s. before + morph_count (header_at words s)) (granule_is c.granule_at.ensures) ∙ ap (λ (h : SlabHeader). before + morph_count h) (sym (header_is words c.args.start c.args.class c.requires.ready))

pub returns-clause-taken : goal.returns-clause-taken
returns-clause-taken g c =
    let words = words_of (g.P.Pmem.state c.args.p.now) in
    let new = words_of (g.P.Pmem.state c.morph.new.p) in
    let kept = kept_here (λ (h g : SlabHeader). g ≡ morphed h c.args.class) (granule_is c.granule_at.ensures) c.morph.ensures.kept in
    of_class words c.args.start c.args.class c.requires.ready new (keeps_wider (λ h is. inr (inr is)) kept) kept.left.header
