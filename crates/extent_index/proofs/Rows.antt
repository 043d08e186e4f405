-- Rows of granules that are free or held.
use Rattle.std.proofs.Common.{ℕ, ◌+◌, ◌-◌, ◌<◌, ◌≤◌, ⊎_elim, arith}
use Rattle.std.proofs.lemmas.Bool.{cases_lt}
use Rattle.heap_model.specs.Runs.{IsFreeRow}
use Rattle.extent_index.specs.FreeSet.{FreeSet, IsFree, IsHeldRow}
use Rattle.extent_index.specs.Runs.{IsRunWith}

-- the run that has the first of free granules in a row has them all
pub row_in_run : {set : FreeSet} (start n first size : ℕ) → IsFreeRow (IsFree set) start n → IsRunWith set start first size → start + n ≤ first + size
row_in_run start n first size row with_it = ⊎_elim
    (λ (more : first + size < start + n). absurd (with_it.run.ends (row.each (first + size) (omega (arith, with_it.high)) more)))
    (λ (h : start + n ≤ first + size). h)
    (cases_lt (first + size) (start + n))

-- a held row lies in the heap
pub row_in_heap : {set : FreeSet} (start n : ℕ) → IsHeldRow set start n → 0 < n → (4 ≤ start) × (start + n ≤ set.granules)
row_in_heap start n row some =
    let first = row.each start (omega arith) (omega arith) in
    let last = row.each (start + n - 1) (omega arith) (omega arith) in
    (first.0, omega (arith, last.1))
