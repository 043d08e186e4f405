-- Free rows, runs and fits of two sets of granules that have the same members, and what a best fit gives.
use Rattle.std.proofs.Common.{◌↔◌, ◌+◌, ◌<◌, ◌≤◌, ℕ, arith}
use Rattle.heap_model.specs.Runs.{IsFreeRow, IsFreeRun, IsBestFit, HasNoFit}

module _ (One Other : ℕ → Type 0) (same : (k : ℕ) → One k ↔ Other k) where
  pub IsFreeRow-same : (start n : ℕ) → IsFreeRow One start n → IsFreeRow Other start n
  IsFreeRow-same start n row = record { each = λ k low high. (same k).0 (row.each k low high) }

  pub IsFreeRun-same : (start n : ℕ) → IsFreeRun One start n → IsFreeRun Other start n
  IsFreeRun-same start n run = record {
    some = run.some;
    row = IsFreeRow-same start n run.row;
    begins = λ k before free. run.begins k before ((same k).1 free);
    ends = λ free. run.ends ((same (start + n)).1 free);
  }

-- the members the other way round
other_way : (One Other : ℕ → Type 0) → ((k : ℕ) → One k ↔ Other k) → (k : ℕ) → Other k ↔ One k
other_way One Other same k = ((same k).1, (same k).0)

pub IsBestFit-same : (One Other : ℕ → Type 0) (n start : ℕ) → ((k : ℕ) → One k ↔ Other k) → IsBestFit One n start → IsBestFit Other n start
IsBestFit-same One Other n start same fit =
    let back : (begin long : ℕ) → IsFreeRun Other begin long → IsFreeRun One begin long = IsFreeRun-same Other One (other_way One Other same) in
    record {
      length = fit.length;
      run = IsFreeRun-same One Other same start fit.length fit.run;
      enough = fit.enough;
      shortest = λ begin long run enough. fit.shortest begin long (back begin long run) enough;
      lowest = λ begin run. fit.lowest begin (back begin fit.length run);
    }

pub HasNoFit-same : (One Other : ℕ → Type 0) (n : ℕ) → ((k : ℕ) → One k ↔ Other k) → HasNoFit One n → HasNoFit Other n
HasNoFit-same One Other n same none = record { none = λ start long run. none.none start long (IsFreeRun-same Other One (other_way One Other same) start long run) }

-- each granule of the best fit is free
pub fit_free : (Free : ℕ → Type 0) (n start k : ℕ) → IsBestFit Free n start → start ≤ k → k < start + n → Free k
fit_free Free n start k fit low high = fit.run.row.each k low (omega (arith, high, fit.enough))
