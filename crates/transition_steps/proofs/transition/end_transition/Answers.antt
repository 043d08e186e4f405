use Rattle.std.proofs.Common.{◌≡◌, inr, sym, subst}
use Rattle.transition_steps.proofs.Common.{words_of, step_wider, settled, IsSettleStage, IsDone, keeps_wider, SlabHeader}
use Rattle.slab_header.specs.Morph.{finish_old_events}
use Rattle.transition_steps.proofs.HeaderImages.{granule_is, step_here, kept_here}
use Rattle.transition_steps.proofs.EndImages.{header_is, done_there, end_keeps, end_done}
use Rattle.transition_steps.proofs.transition.end_transition.Goals as goal

pub finish_old-requires-clause-done : goal.finish_old-requires-clause-done
finish_old-requires-clause-done g c = subst (IsDone (words_of (g.P.Pmem.state c.args.p.now))) (sym (granule_is c.granule_at.ensures)) (done_there c.requires.endable)

pub returns-clause-step : goal.returns-clause-step
returns-clause-step g c =
    step_wider (end_keeps c.requires.endable) (step_here (λ start (h : SlabHeader). finish_old_events start h.class) IsSettleStage (granule_is c.granule_at.ensures) (header_is c.requires.endable) c.finish_old.ensures.step)

pub returns-clause-ended : goal.returns-clause-ended
returns-clause-ended g c =
    let kept = kept_here (λ (h g : SlabHeader). g ≡ settled h) (granule_is c.granule_at.ensures) c.finish_old.ensures.kept in
    end_done c.requires.endable (words_of (g.P.Pmem.state c.finish_old.new.p)) (keeps_wider (λ h is. inr is) kept) kept.left.header
