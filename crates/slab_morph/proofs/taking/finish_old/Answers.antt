use Rattle.std.proofs.Common.{ℕ, ◌≡◌, ◌∙◌, ◌/◌, sym, ap, subst}
use Rattle.slab_morph.proofs.Common.{CrashOnly, words_of, Appends, SlabState, Normal, class_of, state_events, SlabHeader}
use Rattle.slab_morph.specs.SlabHeaders.{header_at, HasStateWord}
use Rattle.slab_morph.specs.Stages.{with_state, settled, KeepsHeld, IsSettleStage}
use Rattle.slab_morph.proofs.HeaderTables.{changes_by}
use Rattle.slab_morph.proofs.Stages.{keeps_changed, settling, settle_crash}
use Rattle.slab_morph.proofs.taking.finish_old.Goals as goal

-- the state that is put, by what the header says
normal : {h : SlabHeader} {was : SlabState} {class : ℕ} → HasStateWord h was → class ≡ class_of was → Normal class ≡ Normal h.class
normal says is = ap (λ class. Normal class) (is ∙ sym says.class)

pub returns-clause-settled : goal.returns-clause-settled
returns-clause-settled g c =
    let words = words_of (g.P.Pmem.state c.args.p.now) in
    let start = c.args.slab / 16384 in
    changes_by words (words_of (g.P.Pmem.state c.put_state.new.p)) start settled c.put_state.ensures.told.off (c.put_state.ensures.told.header ∙ ap (with_state (header_at words start)) (normal c.state_at.ensures.says c.fields_of-class.ensures.class))

pub returns-clause-kept : goal.returns-clause-kept
returns-clause-kept g c =
    let state = g.P.Pmem.state in
    let done = returns-clause-settled g c in
    let last = settling (words_of (state c.args.p.now)) (words_of (state c.put_state.new.p)) (c.args.slab / 16384) c.requires.done.kind c.requires.done.none c.put_state.ensures.others c.put_state.ensures.valid done.header in
    keeps_changed done last.held last.valid

pub returns-clause-step : goal.returns-clause-step
returns-clause-step g c = record {
  appends =
      subst (λ (s : SlabState). Appends (g.P.Pmem.state c.args.p.now) (g.P.Pmem.state c.put_state.new.p) (state_events (c.args.slab / 16384) s)) (normal c.state_at.ensures.says c.fields_of-class.ensures.class) c.put_state.ensures.step.appends;
  quiet = c.put_state.ensures.step.quiet;
  crash =
      let words = words_of (g.P.Pmem.state c.args.p.now) in
      let start = c.args.slab / 16384 in
      let class = c.fields_of-class.result.class in
      subst (λ (s : SlabState). CrashOnly words (state_events start s) (KeepsHeld words start (IsSettleStage (header_at words start)))) (normal c.state_at.ensures.says c.fields_of-class.ensures.class)
      (settle_crash words (words_of (g.P.Pmem.state c.put_state.new.p)) start c.requires.done.kind c.requires.done.none c.put_state.ensures.others c.put_state.ensures.valid (returns-clause-settled g c).header (state_events start (Normal class)) c.put_state.ensures.step.crash);
}
