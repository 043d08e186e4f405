-- Free granules in a row, one granule after another.
use Rattle.std.proofs.Common.{◌≡◌, ◌≢◌, ◌⊎◌, ◌+◌, ◌-◌, ◌<◌, ◌≤◌, ℕ, sym, subst, arith, ⊎_elim}
use Rattle.std.proofs.lemmas.Bool.{cases_eq, cases_lt}
use Rattle.heap_model.specs.Runs.{IsFreeRow}
use Rattle.heap_map.specs.declared.runs.Runs.{Runs}
use Rattle.heap_map.specs.Facts.{IsLongestRow}
use Rattle.heap_map.specs.Scans.{AreRuns}

module _ (Free : ℕ → Type 0) where
  pub runs_none : AreRuns Free 0 (record { run = 0; longest = 0 })
  runs_none = record {
    within = omega arith;
    row = λ k below from. absurd (omega arith);
    edge = λ k at. absurd (omega arith);
    start = 0;
    found = record { each = λ k low high. absurd (omega arith) };
    most = λ other long row inside. omega (arith, inside);
  }

  -- a granule that is free
  pub runs_more : (n : ℕ) (runs : Runs) (longest : ℕ) → Free n → AreRuns Free n runs → runs.longest ≤ longest → runs.run + 1 ≤ longest → (longest ≡ runs.longest) ⊎ (longest ≡ runs.run + 1) →
      AreRuns Free (n + 1) (record { run = runs.run + 1; longest = longest })
  runs_more n runs longest here are low enough one = record {
    within = omega (arith, are.within);
    row = row;
    edge = λ k at free. are.edge k (omega (arith, at)) free;
    start = found.0;
    found = found.1;
    most = most;
  }
    where
      row : (k : ℕ) → k < n + 1 → n + 1 ≤ k + (runs.run + 1) → Free k
      row k below from = ⊎_elim (λ (same : k ≡ n). subst Free (sym same) here) (λ (other : k ≢ n). are.row k (omega arith) (omega (arith, from))) (cases_eq k n)

      found : (start : ℕ) × IsFreeRow Free start longest
      found = ⊎_elim
          (λ (same : longest ≡ runs.longest). (are.start, subst (IsFreeRow Free are.start) (sym same) are.found))
          (λ (new : longest ≡ runs.run + 1). (n - runs.run, record { each = λ k from to. row k (omega (arith, to, new, are.within)) (omega (arith, from, are.within)) }))
          one

      most : (other long : ℕ) → IsFreeRow Free other long → other + long ≤ n + 1 → long ≤ longest
      most other long rows inside = ⊎_elim
          (λ (ends : other + long ≡ n + 1). ⊎_elim
          (λ (more : runs.run + 1 < long). absurd (are.edge (n - runs.run - 1) (omega (arith, ends, more, are.within)) (rows.each (n - runs.run - 1) (omega (arith, ends, more, are.within)) (omega (arith, ends, more, are.within)))))
          (λ (few : long ≤ runs.run + 1). omega (arith, few, enough))
          (cases_lt (runs.run + 1) long))
          (λ (before : other + long ≢ n + 1). omega (arith, are.most other long rows (omega (arith, inside, before)), low))
          (cases_eq (other + long) (n + 1))

  -- one that is not
  pub runs_ended : (n : ℕ) (runs : Runs) → ¬ (Free n) → AreRuns Free n runs → AreRuns Free (n + 1) (record { run = 0; longest = runs.longest })
  runs_ended n runs none are = record {
    within = omega arith;
    row = λ k below from. absurd (omega (arith, below, from));
    edge = λ k at free. none (subst Free (omega (arith, at)) free);
    start = are.start;
    found = are.found;
    most = λ other long rows inside. ⊎_elim
        (λ (empty : long ≡ 0). omega (arith, empty))
        (λ (some : long ≢ 0). ⊎_elim
        (λ (ends : other + long ≡ n + 1). absurd (none (rows.each n (omega (arith, ends, some)) (omega (arith, ends)))))
        (λ (before : other + long ≢ n + 1). are.most other long rows (omega (arith, inside, before)))
        (cases_eq (other + long) (n + 1)))
        (cases_eq long 0);
  }

  -- at the end of an arena, where all free granules are
  pub longest_of : (n : ℕ) (runs : Runs) → ((k : ℕ) → Free k → k < n) → AreRuns Free n runs → IsLongestRow Free runs.longest
  longest_of n runs bounded are = record {
    start = are.start;
    row = are.found;
    most = λ other long rows. ⊎_elim
        (λ (empty : long ≡ 0). omega (arith, empty))
        (λ (some : long ≢ 0).
        let last : Free (other + long - 1) = rows.each (other + long - 1) (omega (arith, some)) (omega (arith, some)) in
        are.most other long rows (omega (arith, bounded (other + long - 1) last, some)))
        (cases_eq long 0);
  }
