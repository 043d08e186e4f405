use Rattle.std.proofs.Common.{◌∙◌}
use Rattle.heap_indexes.proofs.BestSlabs.{none_ready, best_sought, noted_more, was_normal, smaller}
use Rattle.heap_indexes.proofs.fitting.best_slab.Goals as goal

pub first_clear-requires-clause-inside : goal.first_clear-requires-clause-inside
first_clear-requires-clause-inside c =
    let first = rw c.in-Some.is at c.loop-next.invariant.first in
    c.requires.inside c.in-Some.slab.start first.is.own (was_normal c.args.lives.now c.loop-next.lives c.loop-next.invariant.noted.same c.in-Some.slab.start ∙ first.is.slab)

pub returns-in-Some-first_clear-clause-best : goal.returns-in-Some-first_clear-clause-best
returns-in-Some-first_clear-clause-best c =
    best_sought c.loop-next.lives c.args.units.now c.args.class c.in-Some.slab c.in-Some-first_clear._clear (rw c.in-Some.is at c.loop-next.invariant.first) c.in-Some-first_clear.ensures

pub loop-next-preserved : goal.loop-next-preserved
loop-next-preserved c = record {
  noted = noted_more c.in-Some.slab.start c.loop-next.invariant.noted c.in_default-first_clear.ensures c.note_unfit.ensures.counts c.note_unfit.ensures.normal c.note_unfit.ensures.unfit;
  first = c.first-next-in-Some.ensures.first;
  inside = c.first-next-in-Some.ensures.inside;
}

pub loop-next-smaller : goal.loop-next-smaller
loop-next-smaller c =
    rw c.in-Some.is
    (smaller c.args.lives.now c.loop-next.lives c.note_unfit.new.self c.args.units.now c.args.class c.in-Some.slab c.first-next-in-Some.result c.loop-next.invariant.noted c.requires.few (rw c.in-Some.is at c.loop-next.invariant.first)
    (rw c.in-Some.is at c.loop-next.invariant.inside) c.note_unfit.ensures.counts c.note_unfit.ensures.normal c.note_unfit.ensures.unfit c.first-next-in-Some.ensures.first c.first-next-in-Some.ensures.inside)

pub returns-clause-best : goal.returns-clause-best
returns-clause-best c = none_ready c.loop-next.lives c.args.units.now c.args.class (rw c.in_default.is at c.loop-next.invariant.first)
