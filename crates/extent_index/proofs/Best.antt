-- The best fit, from the least length that a run has and the lowest start of the runs that have it.
use Rattle.std.proofs.Common.{◌≡◌, ℕ, ◌+◌, ◌-◌, ◌*◌, ◌<◌, ◌≤◌, ⊎_elim, List, true, ltb, eqb, get_or, sym, ap, ◌∙◌, arith, subst}
use Rattle.std.proofs.lemmas.Bool.{cases_lt, eq-eqb, eqb-true, lt-ltb, and_from, and_parts, false≢true}
use Rattle.bit_words.specs.Numbers.{has, HasNoneIn, IsLeastIn}
use Rattle.heap_model.specs.Runs.{IsFreeRun, IsBestFit, HasNoFit}
use Rattle.extent_index.specs.FreeSet.{FreeSet, IsFree}
use Rattle.extent_index.specs.Runs.{words_of, run_number, set_of, IsIndex}
use Rattle.extent_index.proofs.Members.{runs_of, run_is_free, length_of_run}
use Rattle.extent_index.proofs.Numbers.{enough_words}

module _ {granules : ℕ} {starts lengths length_at start_at : List ℕ} (index : IsIndex granules starts lengths length_at start_at) where
  -- a run's first granule is among the starts of its length
  pub has_start : (s n : ℕ) → get_or length_at s 0 ≡ n → 0 < n → has starts (run_number granules n s) ≡ true
  has_start s n is some =
      index.starts_are n s (omega (arith, index.high s, index.low s)) (omega (arith, index.high s, enough_words granules))
      ∙ and_from (ltb 0 n) (eqb (get_or length_at s 0) n) (lt-ltb 0 n some) (eq-eqb (get_or length_at s 0) n is)

  -- and a number among them is a run's
  pub start_of : (s n : ℕ) → n < granules → s < 64 * words_of granules → has starts (run_number granules n s) ≡ true → get_or length_at s 0 ≡ n
  start_of s n below inside found = eqb-true (get_or length_at s 0) n (and_parts (ltb 0 n) (eqb (get_or length_at s 0) n) (sym (index.starts_are n s below inside) ∙ found)).1

  -- a length that a run has is below the granules
  pub length_below : (n : ℕ) → 0 < n → has lengths n ≡ true → n < granules
  length_below n some found = ⊎_elim
      (λ (below : n < granules). below)
      (λ (past : granules ≤ n). absurd (false≢true (sym (index.none n some (λ s is. omega (arith, is, index.high s, index.low s))) ∙ found)))
      (cases_lt n granules)

  -- the words of a length that a run has are not all without a number
  pub not_none : (n row : ℕ) → 0 < n → row ≡ words_of granules * n → has lengths n ≡ true → ¬ (HasNoneIn starts (64 * row) (64 * (row + words_of granules) - 64 * row))
  not_none n row some row_is found none =
      false≢true (sym (index.none n some (λ s is. false≢true (sym (none.none (run_number granules n s) (omega arith) (omega (arith, is, index.high s, enough_words granules))) ∙ has_start s n is some))) ∙ found)

module _ {granules : ℕ} {starts lengths length_at start_at : List ℕ} {set : FreeSet} (is : set_of granules length_at ≡ set) (index : IsIndex granules starts lengths length_at start_at) where
  -- the lowest start of the least length that is enough
  pub best_fit : (n m row number : ℕ) → 0 < n → row ≡ words_of granules * m → IsLeastIn lengths n (64 * words_of granules - n) m → IsLeastIn starts (64 * row) (64 * (row + words_of granules) - 64 * row) number →
      IsBestFit (IsFree set) n (number - 64 * row)
  best_fit n m row number some row_is least lowest =
      let start = number - 64 * row in
      let more : 0 < m = omega (arith, least.low) in
      let below : m < granules = length_below index m more least.is in
      let number_is : run_number granules m start ≡ number = omega (arith, lowest.low) in
      let is_run : get_or length_at start 0 ≡ m = start_of index start m below (omega (arith, lowest.high)) (ap (has starts) number_is ∙ lowest.is) in
      record {
        length = m;
        run = subst (IsFreeRun (IsFree set) start) is_run (run_is_free is (runs_of index) start (omega arith));
        enough = least.low;
        shortest = λ other long run enough. ⊎_elim
            (λ (shorter : long < m).
            let long_is = length_of_run is (runs_of index) other long run in
            absurd (false≢true (sym (least.least long enough shorter) ∙ sym (ap (has lengths) long_is) ∙ index.some other (omega (arith, long_is)))))
            (λ (h : m ≤ long). h)
            (cases_lt long m);
        lowest = λ other run. ⊎_elim
            (λ (lower : other < start). absurd (false≢true (sym (lowest.least (run_number granules m other) (omega arith) (omega arith)) ∙ has_start index other m (length_of_run is (runs_of index) other m run) more)))
            (λ (h : start ≤ other). h)
            (cases_lt other start);
      }

  -- no length that a run has is enough
  pub no_fit : (n : ℕ) → 0 < n → HasNoneIn lengths n (64 * words_of granules - n) → HasNoFit (IsFree set) n
  no_fit n some none = record {
    none = λ start long run. ⊎_elim
        (λ (less : long < n). less)
        (λ (enough : n ≤ long).
        let long_is = length_of_run is (runs_of index) start long run in
        absurd (false≢true (sym (none.none long enough (omega (arith, long_is, index.high start, index.low start, enough_words granules))) ∙ sym (ap (has lengths) long_is) ∙ index.some start (omega (arith, long_is)))))
        (cases_lt long n);
  }

  -- nor is one of as many granules as the arena has
  pub no_fit_past : (n : ℕ) → granules ≤ n → HasNoFit (IsFree set) n
  no_fit_past n past = record {
    none = λ start long run. omega (arith, length_of_run is (runs_of index) start long run, index.high start, index.low start, run.some);
  }
