use Rattle.std.proofs.Common.{◌≡◌, ◌-◌, ◌<◌, ◌≤◌, sym, ap, ◌∙◌, arith, ⊎_elim}
use Rattle.block_supply.proofs.Common.{cases_lt, class_in}
use Rattle.block_supply.proofs.place.nearest_slab.Goals as goal
use Rattle.block_supply.proofs.place.nearest_slab.Goals.{then-back-granule+in_default, else-back-granule}

pub loop-back-init : goal.loop-back-init
loop-back-init c = λ before less within. absurd (omega (arith, less))

pub loop-back-preserved : goal.loop-back-preserved
loop-back-preserved c = λ before less within. ⊎_elim
    (λ (earlier : before < c.loop-back.back). c.loop-back.invariant before earlier within)
    (λ (last : c.loop-back.back ≤ before).
    let same : before ≡ c.loop-back.back = omega (arith, less, last) in
    elim c.if-back-granule.branch [
      | then-back-granule+in_default w ↦ ap (λ k. class_in c.args.slabs.now (c.args.granule - k)) same ∙ sym w.class_at.ensures.class ∙ w.in_default.is
      | else-back-granule w ↦ absurd (omega (arith, same, within, w.if-back-granule.false))
    ])
    (cases_lt before c.loop-back.back)

pub returns : goal.returns
returns c = record {
  none = λ start low high.
      let far : c.args.granule - (c.args.granule - start) ≡ start = omega (arith, low) in
      sym (ap (class_in c.args.slabs.now) far) ∙ c.loop-back.invariant (c.args.granule - start) (omega (arith, low, high, c.loop-back-test.false)) (omega arith);
}
