use Rattle.std.proofs.Common.{◌≡◌, ◌≢◌, ◌-◌, ◌∙◌, ℕ, false, sym, subst, arith, ⊎_elim}
use Rattle.std.proofs.lemmas.Bool.{cases_eq}
use Rattle.gc_check.specs.Heap.{gc_tables}
use Rattle.gc_search.proofs.Standing.{gc_slab}
use Rattle.gc_map.proofs.RootPlaces.{none_over}
use Rattle.gc_map.proofs.places.slab_over.Goals.{else-back-granule-via-then-back-granule+else-is_slab, else-back-granule-via-else-back-granule}
use Rattle.gc_map.proofs.places.slab_over.Goals as goal

pub returns-then-is_slab : goal.returns-then-is_slab
returns-then-is_slab c = record {
  slab = gc_slab c.args.words.now (c.args.granule - c.loop-back.back) ∙ sym (c.is_slab.ensures c.args.words.now c.requires.reads) ∙ c.if-is_slab.true;
  low = omega arith;
  high = omega (arith, c.loop-back-test.true, c.if-back-granule.true);
}

pub loop-back-preserved : goal.loop-back-preserved
loop-back-preserved c back below within = ⊎_elim
    (λ (same : back ≡ c.loop-back.back). elim c.else-back-granule.branch [
      | else-back-granule-via-then-back-granule+else-is_slab w ↦ subst (λ (k : ℕ). (gc_tables c.args.words.now).slab (c.args.granule - k) ≡ false) (sym same)
          (gc_slab c.args.words.now (c.args.granule - c.loop-back.back) ∙ sym (w.is_slab.ensures c.args.words.now c.requires.reads) ∙ w.if-is_slab.false)
      | else-back-granule-via-else-back-granule w ↦ absurd (omega (arith, same, within, w.if-back-granule.false))
    ])
    (λ (other : back ≢ c.loop-back.back). c.loop-back.invariant back (omega (arith, below, other)) within)
    (cases_eq back c.loop-back.back)

pub returns : goal.returns
returns c = none_over (gc_tables c.args.words.now) c.args.granule c.loop-back.back (omega (arith, c.loop-back-test.false)) c.loop-back.invariant
