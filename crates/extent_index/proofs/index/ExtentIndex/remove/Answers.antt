use Rattle.std.proofs.Common.{arith, ◌+◌, ◌-◌, ap}
use Rattle.extent_index.proofs.Changes.{is_left, IsReplaced-set, IsIndex-removed, free_removed}
use Rattle.extent_index.proofs.Members.{runs_of, high_of_run, free_inside, length_of_run}
use Rattle.extent_index.proofs.Numbers.{enough_words}
use Rattle.extent_index.proofs.index.ExtentIndex.remove.Goals as goal

pub row_for-row-requires-clause-below : goal.row_for-row-requires-clause-below
row_for-row-requires-clause-below c =
    let run = c.requires.run (omega arith) in
    omega (arith, high_of_run c.self.view_is (runs_of c.self.invariant) c.args.run.start c.args.run.granules run, free_inside c.self.view_is (runs_of c.self.invariant) c.args.run.start (run.row.each c.args.run.start (omega arith) (omega arith)))

pub index_mut-requires : goal.index_mut-requires
index_mut-requires c = omega (arith, high_of_run c.self.view_is (runs_of c.self.invariant) c.args.run.start c.args.run.granules (c.requires.run (omega arith)), c.self.invariant.sizes.length_at_size)

pub overflow_add-run : goal.overflow_add-run
overflow_add-run c = omega (arith, high_of_run c.self.view_is (runs_of c.self.invariant) c.args.run.start c.args.run.granules (c.requires.run (omega arith)))

pub index_mut-requires-2 : goal.index_mut-requires-2
index_mut-requires-2 c = omega (arith, high_of_run c.self.view_is (runs_of c.self.invariant) c.args.run.start c.args.run.granules (c.requires.run (omega arith)), c.self.invariant.sizes.start_at_size)

pub overflow_add-row : goal.overflow_add-row
overflow_add-row c = omega (arith, high_of_run c.self.view_is (runs_of c.self.invariant) c.args.run.start c.args.run.granules (c.requires.run (omega arith)))

pub put-requires : goal.put-requires
put-requires c =
    omega (arith, high_of_run c.self.view_is (runs_of c.self.invariant) c.args.run.start c.args.run.granules (c.requires.run (omega arith)), c.self.invariant.sizes.starts_size, enough_words c.self.inside.granules)

pub invariant_of-self : goal.invariant_of-self
invariant_of-self c =
    let s = c.self.inside in
    let run = c.args.run in
    let high = high_of_run c.self.view_is (runs_of c.self.invariant) run.start run.granules (c.requires.run (omega arith)) in
    IsIndex-removed c.put.new.self c.put-2.new.self _ _ c.self.invariant (omega arith)
    (length_of_run c.self.view_is (runs_of c.self.invariant) run.start run.granules (c.requires.run (omega arith)))
    (IsReplaced-set s.length_at.items run.start 0 (omega (arith, high, c.self.invariant.sizes.length_at_size)))
    (IsReplaced-set s.start_at.items (run.start + run.granules - 1) 0 (omega (arith, high, c.self.invariant.sizes.start_at_size)))
    (rw c.row_for-row.ensures.value at c.put.ensures)
    (is_left c.row_for-row.result (c.row_for-row.result + c.words_for.result) c.has_any-left.result c.row_for-row.ensures.value (ap (λ words. c.row_for-row.result + words) c.words_for.ensures.value) c.has_any-left.ensures)
    c.put-2.ensures

pub returns-clause-free : goal.returns-clause-free
returns-clause-free c =
    let s = c.self.inside in
    let run = c.args.run in
    let high = high_of_run c.self.view_is (runs_of c.self.invariant) run.start run.granules (c.requires.run (omega arith)) in
    free_removed c.self.view_is (runs_of c.self.invariant) (runs_of (invariant_of-self c)) (omega arith)
    (length_of_run c.self.view_is (runs_of c.self.invariant) run.start run.granules (c.requires.run (omega arith)))
    (IsReplaced-set s.length_at.items run.start 0 (omega (arith, high, c.self.invariant.sizes.length_at_size)))
