use Rattle.std.proofs.Common.{◌/◌, sym, subst, ◌∙◌}
use Rattle.slab_morph.specs.Overlaps.{IsOverlapRange}
use Rattle.slab_morph.proofs.unused.covered.Goals as goal

pub returns : goal.returns
returns g c =
    let range = subst (λ n. IsOverlapRange c.args.state.old n c.args.state.class c.overlaps.result.0 c.overlaps.result.1) c.number_at.ensures c.overlaps.ensures in
    record {
      high = range.high;
      inside = λ i low high. (sym c.live_at.ensures ∙ c.if-not-live_at.false, range.inside (c.args.slab / 16384) i low high);
      outside = λ i within either live. range.outside (c.args.slab / 16384) i within either;
    }
