use Rattle.std.proofs.Common.{sym, ◌∙◌}
use Rattle.slab_index.proofs.Searches.{row_more, found_in_row, found_inside, none_at_all}
use Rattle.slab_index.proofs.candidates.Candidates.first.Goals as goal

pub returns-in-Some-clause-first : goal.returns-in-Some-clause-first
returns-in-Some-clause-first c =
    found_in_row c.args.unfit.now c.self.view_is c.self.invariant c.args.class c.loop-live.live c.in-Some.start c.loop-live.invariant
    (rw (c.deref.ensures.value, c.deref-in-loop-live.ensures.value ∙ c.unfit.view_is) at c.in-Some.ensures)

pub returns-in-Some-clause-inside : goal.returns-in-Some-clause-inside
returns-in-Some-clause-inside c =
    rw (sym c.self.view_is)
    (found_inside c.args.unfit.now c.self.view_is c.self.invariant c.args.class c.loop-live.live c.in-Some.start
    (rw (c.deref.ensures.value, c.deref-in-loop-live.ensures.value ∙ c.unfit.view_is) at c.in-Some.ensures))

pub loop-live-preserved : goal.loop-live-preserved
loop-live-preserved c =
    row_more c.args.unfit.now c.self.view_is c.self.invariant c.args.class c.loop-live.live c.loop-live.invariant
    (rw (c.deref.ensures.value, c.deref-in-loop-live.ensures.value ∙ c.unfit.view_is) at c.in_default.ensures)

pub returns-clause-first : goal.returns-clause-first
returns-clause-first c = none_at_all c.args.unfit.now c.self.view_is c.self.invariant c.args.class c.loop-live.live c.loop-live-test.false c.loop-live.invariant
