use Rattle.std.proofs.Common.{◌/◌, arith, refl}
use borrow.Author.Count.{below_more}
use Rattle.image_reading.specs.Held.{IsHeldBy}
use Rattle.image_reading.proofs.Holding.{refuted, not_back, back_without, unheld, unheld_far, HasBack}
use Rattle.image_tables.specs.Tables.{tables_of}
use Rattle.image_reading.proofs.held.is_held.Goals.{in-Some+else-holds, in_default}
use Rattle.image_reading.proofs.held.is_held.Goals as goal

pub returns-then-granule-ge65536 : goal.returns-then-granule-ge65536
returns-then-granule-ge65536 c = refuted (unheld_far c.args.words.now c.args.at c.requires.slabs (omega arith))

pub loop-back-preserved : goal.loop-back-preserved
loop-back-preserved c =
    let t = tables_of c.args.words.now in
    let here : ¬ (HasBack t (c.args.at / 16384) c.loop-back.back c.args.at) =
    elim c.match-slab_back.branch [
      | in-Some+else-holds w ↦ back_without (λ start. IsHeldBy t start c.args.at) w.in-Some.ensures w.holds.ensures w.if-holds.false
      | in_default w ↦ not_back (λ start. IsHeldBy t start c.args.at) (λ start held. held.holds.slab) w.in_default.ensures
    ] in
    below_more (λ d. ¬ (HasBack t (c.args.at / 16384) d c.args.at)) c.loop-back.back c.loop-back.invariant here

pub returns : goal.returns
returns c = refuted (unheld c.args.words.now c.args.at _ c.loop-back.back c.requires.slabs refl (omega arith) c.loop-back.invariant)
