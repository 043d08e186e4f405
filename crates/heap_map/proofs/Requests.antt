-- The longest row of free granules, and which requests of whole granules find a place.
use Rattle.std.proofs.Common.{◌≡◌, ◌≢◌, ◌+◌, ◌*◌, ◌<◌, ℕ, sym, subst, arith, inl, inr, ⊎_elim}
use Rattle.std.proofs.lemmas.Bool.{cases_eq}
use Rattle.size_classes.specs.Classes.{granules_of}
use Rattle.size_classes.proofs.Spacing.{class_size-most}
use Rattle.image_tables.specs.Tables.{Tables}
use Rattle.heap_model.specs.Machine.{Bounds}
use Rattle.heap_model.specs.Runs.{IsFreeRun, HasNoFit}
use Rattle.heap_model.specs.Choice.{HasNoSite}
use Rattle.heap_check.specs.Sound.{IsVacant}
use Rattle.heap_check.specs.Views.{tables_view}
use Rattle.heap_map.specs.Facts.{IsLongestRow, IsGreatestRequest}

module _ (Free : ℕ → Type 0) (longest : ℕ) (is : IsLongestRow Free longest) where
  -- the longest row is a run, where it has a granule
  run_of : 0 < longest → IsFreeRun Free is.start longest
  run_of some = record {
    some = some;
    row = is.row;
    begins = λ k next free. absurd (omega (
      arith,
      is.most k (longest + 1) (record {
        each = λ j low high. ⊎_elim (λ (same : j ≡ k). subst Free (sym same) free) (λ (other : j ≢ k). is.row.each j (omega (arith, low, other, next)) (omega (arith, high, next))) (cases_eq j k);
      }),
    ));
    ends = λ free. absurd (omega (
      arith,
      is.most is.start (longest + 1) (record {
        each = λ j low high. ⊎_elim (λ (same : j ≡ is.start + longest). subst Free (sym same) free) (λ (other : j ≢ is.start + longest). is.row.each j low (omega (arith, high, other))) (cases_eq j (is.start + longest));
      }),
    ));
  }

  pub no_fit : (n : ℕ) → longest < n → HasNoFit Free n
  no_fit n more = record { none = λ start long run. omega (arith, is.most start long run.row, more) }

  pub fits : (n : ℕ) → 0 < n → HasNoFit Free n → longest < n
  fits n some none = ⊎_elim
      (λ (empty : longest ≡ 0). omega (arith, empty, some))
      (λ (row : longest ≢ 0). none.none is.start longest (run_of (omega (arith, row))))
      (cases_eq longest 0)

pub greatest_request : (b : Bounds) (t : Tables) (longest : ℕ) → IsLongestRow (IsVacant b t) longest → IsGreatestRequest b t longest
greatest_request b t longest is size large = (to, from)
  where
    to : HasNoSite (tables_view b t) size → 16384 * longest < size
    to (inl small) = absurd (omega (arith, large, small.least.holds, class_size-most small.class small.least.is_class))
    to (inr none) = granules_many (fits (IsVacant b t) longest is (granules_of size) (omega (arith, large)) none.no_run)
      where
        granules_many : longest < granules_of size → 16384 * longest < size
        granules_many more = omega (arith, more)

    from : 16384 * longest < size → HasNoSite (tables_view b t) size
    from more = inr (record { large = large; no_run = no_fit (IsVacant b t) longest is (granules_of size) (omega (arith, more)) })
