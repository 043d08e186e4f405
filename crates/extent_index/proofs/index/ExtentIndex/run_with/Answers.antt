use Rattle.std.proofs.Common.{◌<◌, sym, ◌∙◌, arith}
use Rattle.std.proofs.lemmas.List.{get_or_read}
use Rattle.extent_index.proofs.Members.{runs_of, granules_of, free_inside, row_down, is_run_with, high_of_run}
use Rattle.extent_index.proofs.index.ExtentIndex.run_with.Goals as goal

pub index-requires : goal.index-requires
index-requires c =
    omega (arith, c.self.invariant.sizes.length_at_size, free_inside c.self.view_is (runs_of c.self.invariant) c.loop-start.start (c.loop-start.invariant.row.each c.loop-start.start (omega arith) (omega arith)))

pub overflow_sub-start : goal.overflow_sub-start
overflow_sub-start c =
    let s = c.self.inside in
    let inside : c.loop-start.start < s.granules = (free_inside c.self.view_is (runs_of c.self.invariant) c.loop-start.start (c.loop-start.invariant.row.each c.loop-start.start (omega arith) (omega arith))).1 in
    let none = sym (get_or_read s.length_at.items c.loop-start.start c.index.result.now (omega (arith, c.self.invariant.sizes.length_at_size)) c.index.ensures 0) ∙ c.loop-start-test.true in
    (row_down c.self.view_is (runs_of c.self.invariant) c.args.k c.loop-start.start c.loop-start.invariant.low c.loop-start.invariant.row none).0

pub loop-start-smaller : goal.loop-start-smaller
loop-start-smaller c = omega (arith, overflow_sub-start c)

pub loop-start-preserved : goal.loop-start-preserved
loop-start-preserved c =
    let s = c.self.inside in
    let inside : c.loop-start.start < s.granules = (free_inside c.self.view_is (runs_of c.self.invariant) c.loop-start.start (c.loop-start.invariant.row.each c.loop-start.start (omega arith) (omega arith))).1 in
    let none = sym (get_or_read s.length_at.items c.loop-start.start c.index.result.now (omega (arith, c.self.invariant.sizes.length_at_size)) c.index.ensures 0) ∙ c.loop-start-test.true in
    record {
      low = omega arith;
      row = (row_down c.self.view_is (runs_of c.self.invariant) c.args.k c.loop-start.start c.loop-start.invariant.low c.loop-start.invariant.row none).1;
    }

pub index-requires-2 : goal.index-requires-2
index-requires-2 c =
    omega (arith, c.self.invariant.sizes.length_at_size, free_inside c.self.view_is (runs_of c.self.invariant) c.loop-start.start (c.loop-start.invariant.row.each c.loop-start.start (omega arith) (omega arith)))

pub returns-clause-run : goal.returns-clause-run
returns-clause-run c =
    let s = c.self.inside in
    let inside : c.loop-start.start < s.granules = (free_inside c.self.view_is (runs_of c.self.invariant) c.loop-start.start (c.loop-start.invariant.row.each c.loop-start.start (omega arith) (omega arith))).1 in
    let read = get_or_read s.length_at.items c.loop-start.start c.index-2.result.now (omega (arith, c.self.invariant.sizes.length_at_size)) c.index-2.ensures 0 in
    let tested = get_or_read s.length_at.items c.loop-start.start c.index.result.now (omega (arith, c.self.invariant.sizes.length_at_size)) c.index.ensures 0 in
    is_run_with c.self.view_is (runs_of c.self.invariant) c.args.k c.loop-start.start c.index-2.result.now c.loop-start.invariant.low c.loop-start.invariant.row read (omega (arith, read, tested))

pub returns-clause-high : goal.returns-clause-high
returns-clause-high c =
    omega (arith, granules_of c.self.inside.granules c.self.inside.length_at.items c.self.view_is, high_of_run c.self.view_is (runs_of c.self.invariant) c.loop-start.start c.index-2.result.now (returns-clause-run c).run)
