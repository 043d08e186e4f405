use Rattle.std.proofs.Common.{arith, ◌+◌, ◌-◌}
use Rattle.extent_index.proofs.Changes.{is_clear, IsReplaced-set, IsIndex-inserted, free_inserted}
use Rattle.extent_index.proofs.Members.{runs_of}
use Rattle.extent_index.proofs.Numbers.{enough_words}
use Rattle.extent_index.proofs.index.ExtentIndex.insert.Goals as goal

pub overflow_add-run : goal.overflow_add-run
overflow_add-run c = omega (arith, (is_clear c.self.view_is (runs_of c.self.invariant) (omega arith) c.requires).high)

pub index_mut-requires-2 : goal.index_mut-requires-2
index_mut-requires-2 c = omega (arith, (is_clear c.self.view_is (runs_of c.self.invariant) (omega arith) c.requires).high, c.self.invariant.sizes.start_at_size)

pub overflow_add-row : goal.overflow_add-row
overflow_add-row c = omega (arith, (is_clear c.self.view_is (runs_of c.self.invariant) (omega arith) c.requires).high)

pub put-requires : goal.put-requires
put-requires c = omega (arith, (is_clear c.self.view_is (runs_of c.self.invariant) (omega arith) c.requires).high, c.self.invariant.sizes.starts_size, enough_words c.self.inside.granules)

pub put-requires-2 : goal.put-requires-2
put-requires-2 c =
    let clear = is_clear c.self.view_is (runs_of c.self.invariant) (omega arith) c.requires in
    omega (arith, clear.low, clear.high, c.self.invariant.sizes.lengths_size, enough_words c.self.inside.granules)

pub invariant_of-self : goal.invariant_of-self
invariant_of-self c =
    let s = c.self.inside in
    let run = c.args.run in
    let clear = is_clear c.self.view_is (runs_of c.self.invariant) (omega arith) c.requires in
    IsIndex-inserted c.put.new.self c.put-2.new.self _ _ c.self.invariant (omega arith) clear
    (IsReplaced-set s.length_at.items run.start run.granules (omega (arith, clear.high, c.self.invariant.sizes.length_at_size)))
    (IsReplaced-set s.start_at.items (run.start + run.granules - 1) run.start (omega (arith, clear.high, c.self.invariant.sizes.start_at_size)))
    (rw c.row_for-row.ensures.value at c.put.ensures)
    c.put-2.ensures

pub returns-clause-free : goal.returns-clause-free
returns-clause-free c =
    let s = c.self.inside in
    let run = c.args.run in
    let clear = is_clear c.self.view_is (runs_of c.self.invariant) (omega arith) c.requires in
    free_inserted c.self.view_is (runs_of c.self.invariant) (runs_of (invariant_of-self c)) clear.none
    (IsReplaced-set s.length_at.items run.start run.granules (omega (arith, clear.high, c.self.invariant.sizes.length_at_size)))
