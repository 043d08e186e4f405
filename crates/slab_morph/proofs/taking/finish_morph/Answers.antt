use Rattle.std.proofs.Common.{◌≡◌, ◌++◌, ◌∙◌, ◌/◌, sym, subst}
use Rattle.slab_morph.proofs.Common.{CrashOnly, words_of, Appends, then_step, SlabState, Morphed, class_of, old_of, entries_of, clear_events, state_events, SlabHeader}
use Rattle.slab_morph.specs.SlabHeaders.{header_at, HasStateWord}
use Rattle.slab_morph.specs.Stages.{with_state, finished, KeepsHeld, IsFinishStage}
use Rattle.slab_morph.proofs.BitmapEvents.{IsQuiet-clear}
use Rattle.slab_morph.proofs.HeaderTables.{changes_by, off_then}
use Rattle.slab_morph.proofs.Stages.{keeps_changed, finishing, finish_crash}
use Rattle.slab_morph.proofs.taking.finish_morph.Goals as goal

-- the state at the end, by what the header says
there : {h : SlabHeader} {was state : SlabState} → HasStateWord h was → state ≡ Morphed (class_of was) (old_of was) (entries_of was) → state ≡ Morphed h.class h.old h.index_count
there {h} {was} {state} says is = is ∙ (λ i. Morphed ((sym says.class) i) ((sym says.old) i) ((sym says.entries) i))

pub returns-clause-finished : goal.returns-clause-finished
returns-clause-finished g c =
    let words = words_of (g.P.Pmem.state c.args.p.now) in
    let between = words_of (g.P.Pmem.state c.clear_bitmap.new.p) in
    let new = words_of (g.P.Pmem.state c.put_state.new.p) in
    let start = c.args.slab / 16384 in
    changes_by words new start finished (off_then words between new start c.clear_bitmap.ensures.cleared.off c.put_state.ensures.told.off)
    (c.put_state.ensures.told.header ∙ (λ i. with_state (c.clear_bitmap.ensures.cleared.header i) (there c.state_at.ensures.says c.arrived-there.ensures.state i)))

pub returns-clause-kept : goal.returns-clause-kept
returns-clause-kept g c =
    let state = g.P.Pmem.state in
    let cleared = c.clear_bitmap.ensures in
    let told = c.put_state.ensures in
    let done = returns-clause-finished g c in
    let last = finishing (words_of (state c.args.p.now)) (c.args.slab / 16384) c.requires.morphing.kind (words_of (state c.clear_bitmap.new.p)) (words_of (state c.put_state.new.p)) cleared.others cleared.cleared.header told.others told.valid done.header in
    keeps_changed done last.held last.valid

pub returns-clause-step : goal.returns-clause-step
returns-clause-step g c = record {
  appends =
      let state = g.P.Pmem.state in
      let start = c.args.slab / 16384 in
      subst (λ (s : SlabState). Appends (state c.args.p.now) (state c.put_state.new.p) (clear_events start ++ state_events start s)) (there c.state_at.ensures.says c.arrived-there.ensures.state) (then_step c.clear_bitmap.ensures.step.appends c.put_state.ensures.step.appends);
  quiet = c.put_state.ensures.step.quiet;
  crash =
      let state = g.P.Pmem.state in
      let words = words_of (state c.args.p.now) in
      let start = c.args.slab / 16384 in
      subst (λ (s : SlabState). CrashOnly words (clear_events start ++ state_events start s) (KeepsHeld words start (IsFinishStage (header_at words start)))) (there c.state_at.ensures.says c.arrived-there.ensures.state)
      (finish_crash words start c.requires.morphing.kind (words_of (state c.clear_bitmap.new.p)) (words_of (state c.put_state.new.p)) c.clear_bitmap.ensures.others c.clear_bitmap.ensures.cleared.header c.put_state.ensures.others c.put_state.ensures.valid
      (returns-clause-finished g c).header (clear_events start) (state_events start c.arrived-there.result) (IsQuiet-clear start) c.clear_bitmap.ensures.step.appends.words c.clear_bitmap.ensures.step.crash c.put_state.ensures.step.crash);
}
