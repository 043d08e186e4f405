use Rattle.std.proofs.Common.{refl, arith}
use Rattle.arena_core.proofs.Common.{words_of, sizes_of}
use Rattle.slab_index.proofs.Noting.{nearer}
use Rattle.arena_core.proofs.BestSlabs.{none_fit, best_sought, lives_noted}
use Rattle.arena_core.proofs.fitting.best_slab.Goals as goal

pub returns-then-is_ready-clause-best : goal.returns-then-is_ready-clause-best
returns-then-is_ready-clause-best g c =
    best_sought (words_of (g.P.Pmem.state c.args.device.now)) c.loop-next.lives c.args.class c.loop-next.invariant.lives c.in-Some.slab (rw c.in-Some.is at c.loop-next.invariant.first) (c.if-is_ready.ensures.ready refl)

pub loop-next-preserved : goal.loop-next-preserved
loop-next-preserved g c = record {
  lives = lives_noted (words_of (g.P.Pmem.state c.args.device.now)) c.loop-next.lives c.args.class c.loop-next.invariant.lives c.in-Some.slab c.note_unfit.new.self (rw c.in-Some.is at c.loop-next.invariant.first) (c.if-is_ready.ensures.unfit refl)
      c.note_unfit.ensures.counts c.note_unfit.ensures.normal c.note_unfit.ensures.unfit;
  first = c.first-next-in-Some.ensures.first;
  inside = c.first-next-in-Some.ensures.inside;
}

pub loop-next-smaller : goal.loop-next-smaller
loop-next-smaller g c =
    rw c.in-Some.is
    (nearer c.loop-next.lives c.note_unfit.new.self c.args.class c.in-Some.slab c.first-next-in-Some.result (rw c.in-Some.is at c.loop-next.invariant.first)
    (omega (arith, c.loop-next.invariant.lives.counts.size, (sizes_of (words_of (g.P.Pmem.state c.args.device.now)) c.requires.exact.formed).most))
    (rw c.in-Some.is at c.loop-next.invariant.inside) c.note_unfit.ensures.counts c.note_unfit.ensures.normal c.note_unfit.ensures.unfit c.first-next-in-Some.ensures.first c.first-next-in-Some.ensures.inside)

pub returns-clause-best : goal.returns-clause-best
returns-clause-best g c = none_fit (words_of (g.P.Pmem.state c.args.device.now)) c.loop-next.lives c.args.class c.loop-next.invariant.lives (rw c.in_default.is at c.loop-next.invariant.first)
