use Rattle.std.proofs.Common.{◌≡◌, inr, sym, subst}
use Rattle.transition_steps.proofs.Common.{words_of, step_wider, finished, IsFinishStage, IsOnItsWay, keeps_wider, SlabHeader}
use Rattle.slab_header.specs.Morph.{finish_morph_events}
use Rattle.transition_steps.proofs.HeaderImages.{granule_is, step_here, kept_here}
use Rattle.transition_steps.proofs.FinishImages.{header_is, on_its_way, finish_keeps, finish_done}
use Rattle.transition_steps.proofs.transition.finish_transition.Goals as goal

pub finish_morph-requires-clause-morphing : goal.finish_morph-requires-clause-morphing
finish_morph-requires-clause-morphing g c = subst (IsOnItsWay (words_of (g.P.Pmem.state c.args.p.now))) (sym (granule_is c.granule_at.ensures)) (on_its_way c.requires.morphing)

pub returns-clause-step : goal.returns-clause-step
returns-clause-step g c =
    step_wider (finish_keeps c.requires.morphing)
    (step_here (λ start (h : SlabHeader). finish_morph_events start h.class h.old h.index_count) IsFinishStage (granule_is c.granule_at.ensures) (header_is c.requires.morphing) c.finish_morph.ensures.step)

pub returns-clause-finished : goal.returns-clause-finished
returns-clause-finished g c =
    let kept = kept_here (λ (h g : SlabHeader). g ≡ finished h) (granule_is c.granule_at.ensures) c.finish_morph.ensures.kept in
    finish_done c.requires.morphing (words_of (g.P.Pmem.state c.finish_morph.new.p)) (keeps_wider (λ h is. inr is) kept) kept.left.header
