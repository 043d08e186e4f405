-- The free runs of an index's set are those whose lengths it keeps.
use Rattle.std.proofs.Common.{◌≡◌, ◌≢◌, ℕ, zero, suc, ◌+◌, ◌-◌, ◌<◌, ◌≤◌, ◌⊎◌, ⊎_elim, List, true, false, ltb, map, refl, sym, ◌∙◌, ap, subst, arith, get_or}
use Rattle.std.specs.List.{range_with_len}
use Rattle.std.proofs.lemmas.Bool.{cases_lt, cases_eq, cases_order, or_cases, or_left, or_right, ltb-true, lt-ltb}
use Rattle.std.proofs.lemmas.List.{get_or_past}
use Rattle.std.proofs.lemmas.List.FromFn.{get_or-map-range_with_len, length-map-range_with_len}
use Rattle.heap_model.specs.Runs.{IsFreeRow, IsFreeRun}
use Rattle.extent_index.specs.FreeSet.{FreeSet, IsFree}
use Rattle.extent_index.specs.Runs.{reaches, is_in_run, marks_of, set_of, IsIndex, IsRunBelow, IsRunAbove, IsRunWith}

-- a run has granule k
pub record IsInRun (length_at : List ℕ) (k : ℕ) : Type 0 where
  pub start : ℕ
  pub low : start ≤ k
  pub high : k < start + get_or length_at start 0

-- runs of a heap, with a granule or more between neighbours
pub record AreRuns (granules : ℕ) (length_at : List ℕ) : Type 0 where
  pub low : (s : ℕ) → 0 < get_or length_at s 0 → 4 ≤ s
  pub high : (s : ℕ) → 0 < get_or length_at s 0 → s + get_or length_at s 0 ≤ granules
  pub apart : (s t : ℕ) → s < t → 0 < get_or length_at s 0 → 0 < get_or length_at t 0 → s + get_or length_at s 0 < t

-- those of an index are
pub runs_of : {granules : ℕ} {starts lengths length_at start_at : List ℕ} → IsIndex granules starts lengths length_at start_at → AreRuns granules length_at
runs_of index = record { low = index.low; high = index.high; apart = index.apart }

-- the test tells which granules the runs have
reaches-true : (length_at : List ℕ) (m k : ℕ) → reaches length_at m k ≡ true → (s : ℕ) × (s ≤ m) × (k < s + get_or length_at s 0)
reaches-true length_at zero k h = (0, omega arith, omega (arith, ltb-true k (get_or length_at 0 0) h))
reaches-true length_at (suc m) k h = ⊎_elim
    (λ here. (suc m, omega arith, ltb-true k (suc m + get_or length_at (suc m) 0) here))
    (λ there. let found = reaches-true length_at m k there in (found.0, omega arith, found.2))
    (or_cases (ltb k (suc m + get_or length_at (suc m) 0)) (reaches length_at m k) h)

reaches-test : (length_at : List ℕ) (m k s : ℕ) → s ≤ m → k < s + get_or length_at s 0 → reaches length_at m k ≡ true
reaches-test length_at zero k s low high =
    let first : s ≡ 0 = omega arith in
    lt-ltb k (get_or length_at 0 0) (omega (arith, ap (λ t. get_or length_at t 0) first))
reaches-test length_at (suc m) k s low high = ⊎_elim
    (λ (here : s ≡ suc m). or_left (ltb k (suc m + get_or length_at (suc m) 0)) (reaches length_at m k) (lt-ltb k (suc m + get_or length_at (suc m) 0) (omega (arith, ap (λ t. get_or length_at t 0) here))))
    (λ (there : s ≢ suc m). or_right (ltb k (suc m + get_or length_at (suc m) 0)) (reaches length_at m k) (reaches-test length_at m k s (omega arith) high))
    (cases_eq s (suc m))

-- a mark tells whether a run has its granule
mark_of : (granules : ℕ) (length_at : List ℕ) (k : ℕ) → k < granules → get_or (marks_of granules length_at) k false ≡ is_in_run length_at k
unfolding marks_of
mark_of granules length_at k below = get_or-map-range_with_len (is_in_run length_at) 0 granules k k false below (omega arith)

no_mark : (granules : ℕ) (length_at : List ℕ) (k : ℕ) → granules ≤ k → get_or (marks_of granules length_at) k false ≡ false
unfolding marks_of
no_mark granules length_at k past =
    get_or_past (map (is_in_run length_at) (range_with_len 0 granules)) k false (omega (arith, length-map-range_with_len (is_in_run length_at) 0 granules))

-- a free granule is in a run
pub in_run : (granules : ℕ) (length_at : List ℕ) (k : ℕ) → IsFree (set_of granules length_at) k → IsInRun length_at k
unfolding IsFree
in_run granules length_at k free = ⊎_elim
    (λ (below : k < granules).
    let found = reaches-true length_at k k (sym (mark_of granules length_at k below) ∙ free) in
    record { start = found.0; low = found.1; high = found.2 })
    (λ (past : granules ≤ k). absurd (let none : get_or (marks_of granules length_at) k false ≡ false = no_mark granules length_at k past in cc))
    (cases_lt k granules)

-- a granule of a run is free
pub free_in : (granules : ℕ) (length_at : List ℕ) (s k : ℕ) → AreRuns granules length_at → s ≤ k → k < s + get_or length_at s 0 → IsFree (set_of granules length_at) k
unfolding IsFree
free_in granules length_at s k are low high = mark_of granules length_at k (omega (arith, are.high s)) ∙ reaches-test length_at k k s low high

-- so many granules
pub granules_of : (granules : ℕ) (length_at : List ℕ) {set : FreeSet} → set_of granules length_at ≡ set → set.granules ≡ granules
granules_of granules length_at {set} is = subst (λ (s : FreeSet). s.granules ≡ granules) is refl

module _ {granules : ℕ} {length_at : List ℕ} {set : FreeSet} (is : set_of granules length_at ≡ set) (are : AreRuns granules length_at) where
  -- the same of the set that an index means
  pub run_of : (k : ℕ) → IsFree set k → IsInRun length_at k
  run_of k = subst (λ (s : FreeSet). IsFree s k → IsInRun length_at k) is (in_run granules length_at k)

  pub free_by : (s k : ℕ) → s ≤ k → k < s + get_or length_at s 0 → IsFree set k
  free_by s k low high = subst (λ (x : FreeSet). IsFree x k) is (free_in granules length_at s k are low high)

  -- a run is a free run
  pub run_is_free : (s : ℕ) → 0 < get_or length_at s 0 → IsFreeRun (IsFree set) s (get_or length_at s 0)
  run_is_free s some = record {
    some = some;
    row = record { each = λ k low high. free_by s k low high };
    begins = λ k next free.
        let other = run_of k free in
        absurd (omega (arith, other.low, other.high, are.apart other.start s (omega (arith, other.low)) (omega (arith, other.low, other.high)) some));
    ends = λ free.
        let end = s + get_or length_at s 0 in
        let other = run_of end free in
        let more : 0 < get_or length_at other.start 0 = omega (arith, other.low, other.high) in
        ⊎_elim
        (λ (same : other.start ≡ s). absurd (omega (arith, other.high, ap (λ t. get_or length_at t 0) same)))
        (λ (apart : (other.start < s) ⊎ (s < other.start)). ⊎_elim
        (λ (lower : other.start < s). absurd (omega (arith, other.high, are.apart other.start s lower more some)))
        (λ (higher : s < other.start). absurd (omega (arith, other.low, are.apart s other.start higher some more)))
        apart)
        (cases_order other.start s);
  }

  -- a granule that is free and begins no run has a free one below it
  pub free_below : (k : ℕ) → IsFree set k → get_or length_at k 0 ≡ 0 → (0 < k) × IsFree set (k - 1)
  free_below k free none =
      let run = run_of k free in
      let lower : run.start < k = ⊎_elim
      (λ (same : run.start ≡ k). absurd (omega (arith, run.high, ap (λ t. get_or length_at t 0) same)))
      (λ (apart : run.start ≢ k). omega (arith, run.low))
      (cases_eq run.start k) in
      (omega arith, free_by run.start (k - 1) (omega arith) (omega (arith, run.high)))

  -- a free granule with none below it begins a run
  pub begins_run : (k : ℕ) → IsFree set k → ((j : ℕ) → j + 1 ≡ k → ¬ (IsFree set j)) → 0 < get_or length_at k 0
  begins_run k free held = ⊎_elim
      (λ (none : get_or length_at k 0 ≡ 0). let below = free_below k free none in absurd (held (k - 1) (omega (arith, below.0)) below.1))
      (λ (some : get_or length_at k 0 ≢ 0). omega arith)
      (cases_eq (get_or length_at k 0) 0)

  -- a free run is a run
  pub length_of_run : (s n : ℕ) → IsFreeRun (IsFree set) s n → get_or length_at s 0 ≡ n
  length_of_run s n run =
      let some = run.some in
      let some' : 0 < get_or length_at s 0 = begins_run s (run.row.each s (omega arith) (omega arith)) run.begins in
      ⊎_elim
      (λ (same : get_or length_at s 0 ≡ n). same)
      (λ (apart : (get_or length_at s 0 < n) ⊎ (n < get_or length_at s 0)). ⊎_elim
      (λ (less : get_or length_at s 0 < n). absurd ((run_is_free s some').ends (run.row.each (s + get_or length_at s 0) (omega arith) (omega arith))))
      (λ (more : n < get_or length_at s 0). absurd (run.ends (free_by s (s + n) (omega arith) (omega arith))))
      apart)
      (cases_order (get_or length_at s 0) n)

  -- a free granule lies in the heap
  pub free_inside : (k : ℕ) → IsFree set k → (4 ≤ k) × (k < granules)
  free_inside k free =
      let run = run_of k free in
      let some : 0 < get_or length_at run.start 0 = omega (arith, run.low, run.high) in
      (omega (arith, run.low, are.low run.start some), omega (arith, run.high, are.high run.start some))

  -- free granules up to granule k, the first of which begins no run, go on below it
  pub row_down : (k s : ℕ) → s ≤ k → IsFreeRow (IsFree set) s (k + 1 - s) → get_or length_at s 0 ≡ 0 → (0 < s) × IsFreeRow (IsFree set) (s - 1) (k + 1 - (s - 1))
  row_down k s low row none =
      let below = free_below s (row.each s (omega arith) (omega arith)) none in (
        below.0,
        record {
          each = λ j first last. ⊎_elim
              (λ (here : j < s).
              let next : s - 1 ≡ j = omega arith in
              subst (IsFree set) next below.1)
              (λ (there : s ≤ j). row.each j there (omega arith))
              (cases_lt j s);
        },
      )

  -- free granules up to granule k, the first of which begins a run, lie in that run
  pub is_run_with : (k s n : ℕ) → s ≤ k → IsFreeRow (IsFree set) s (k + 1 - s) → n ≡ get_or length_at s 0 → 0 < n → IsRunWith set k s n
  is_run_with k s n low row n_is some =
      let free = run_is_free s (omega arith) in
      record {
        run = rw n_is free;
        low = low;
        high = ⊎_elim
            (λ (inside : k < s + n). inside)
            (λ (past : s + n ≤ k). absurd (free.ends (row.each (s + get_or length_at s 0) (omega arith) (omega arith))))
            (cases_lt k (s + n));
      }

  -- what begins behind a granule that is not free
  pub is_run_above : (k n : ℕ) → ((j : ℕ) → j + 1 ≡ k → ¬ (IsFree set j)) → n ≡ get_or length_at k 0 → IsRunAbove set k n
  is_run_above k n held n_is = record {
    run = λ some. rw n_is (run_is_free k (omega arith));
    high = ⊎_elim
        (λ (none : n ≡ 0) (free : IsFree set (k + n)).
        let here : k + n ≡ k = omega arith in
        absurd (omega (arith, begins_run k (subst (IsFree set) here free) held)))
        (λ (some : n ≢ 0) (free : IsFree set (k + n)). (run_is_free k (omega arith)).ends (subst (λ m. IsFree set (k + m)) n_is free))
        (cases_eq n 0);
  }

  -- a free run ends where its length says
  pub high_of_run : (s n : ℕ) → IsFreeRun (IsFree set) s n → s + n ≤ granules
  high_of_run s n run = omega (arith, length_of_run s n run, are.high s, run.some)

module _ {granules : ℕ} {starts lengths length_at start_at : List ℕ} {set : FreeSet} (is : set_of granules length_at ≡ set) (index : IsIndex granules starts lengths length_at start_at) where
  -- what ends ahead of a granule that is not free, where something does
  pub is_run_below : (k first : ℕ) → first ≡ get_or start_at (k - 1) 0 → 0 < first → 4 ≤ k → IsRunBelow set k first (k - first)
  is_run_below k first first_is some low =
      let run : 0 < get_or length_at first 0 = subst (λ s. 0 < get_or length_at s 0) (sym first_is) (index.begins (k - 1) (omega arith)) in
      let reach : first + get_or length_at first 0 ≡ k - 1 + 1 = subst (λ s. s + get_or length_at s 0 ≡ k - 1 + 1) (sym first_is) (index.reach (k - 1) (omega arith)) in
      let size : k - first ≡ get_or length_at first 0 = omega arith in
      let free = run_is_free is (runs_of index) first run in
      record { meets = omega arith; run = λ _. rw size free; low = free.begins }

  -- and where nothing does
  pub no_run_below : (k first : ℕ) → first ≡ get_or start_at (k - 1) 0 → first ≡ 0 → ¬ (IsFree set k) → IsRunBelow set k k (k - k)
  no_run_below k first first_is none held = record {
    meets = omega arith;
    run = λ some. absurd (omega arith);
    low = λ j next free.
        let run = run_of is (runs_of index) j free in
        let some : 0 < get_or length_at run.start 0 = omega (arith, run.low, run.high) in
        ⊎_elim
        (λ (past : k < run.start + get_or length_at run.start 0). held (free_by is (runs_of index) run.start k (omega (arith, run.low)) past))
        (λ (here : run.start + get_or length_at run.start 0 ≤ k).
        let last : run.start + get_or length_at run.start 0 - 1 ≡ k - 1 = omega (arith, run.high) in
        let first_of : get_or start_at (k - 1) 0 ≡ run.start = ap (λ e. get_or start_at e 0) (sym last) ∙ index.ends run.start some in
        absurd (omega (arith, first_of, index.low run.start some)))
        (cases_lt k (run.start + get_or length_at run.start 0));
  }
