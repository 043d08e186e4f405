-- The free runs of a heap as an index keeps them: the length of each at its first granule, and beside that where each
-- ends and which runs each length has.
use Rattle.std.specs.Prelude.{◌≡◌, ◌≢◌, ◌==◌, ℕ, suc, zero, ◌+◌, ◌-◌, ◌*◌, ◌/◌, ◌<◌, ◌≤◌, nat_lt, Bool, true, false, ◌&&◌, ◌||◌, map, List, length, slice_index}
use Rattle.std.specs.List.{range_with_len}
use Rattle.bit_words.specs.Numbers.{has}
use Rattle.heap_model.specs.Runs.{IsFreeRun}
use Rattle.extent_index.specs.FreeSet.{FreeSet, IsFree, IsHeldRow}

-- a run that begins at granule s or below reaches beyond granule k
abbrev pub reaches : List ℕ → ℕ → ℕ → Bool
reaches length_at zero k = nat_lt k (slice_index length_at 0)
reaches length_at (suc s) k = nat_lt k (suc s + slice_index length_at (suc s)) || reaches length_at s k

-- one of the runs has granule k
abbrev pub is_in_run : List ℕ → ℕ → Bool
is_in_run length_at k = reaches length_at k k

-- which of so many granules are in the runs
unfoldable pub marks_of : ℕ → List ℕ → List Bool
marks_of granules length_at = map (is_in_run length_at) (range_with_len 0 granules)

-- the free granules of an arena of so many, of which the free runs have these lengths at their first granules
abbrev pub set_of : ℕ → List ℕ → FreeSet
set_of granules length_at = record { granules = granules; marks = marks_of granules length_at }

-- how many words have a bit for each of so many granules
unfoldable pub words_of : ℕ → ℕ
words_of granules = (granules + 63) / 64

-- the number of a run among the starts: its first granule, behind the words of the shorter lengths
abbrev pub run_number : ℕ → ℕ → ℕ → ℕ
run_number granules run_length start = 64 * (words_of granules * run_length) + start

-- the tables are as long as an arena of so many granules needs
pub record HaveSizes (granules : ℕ) (starts lengths length_at start_at : List ℕ) : Type 0 where
  pub starts_size : length starts ≡ words_of granules * granules
  pub lengths_size : length lengths ≡ words_of granules
  pub length_at_size : length length_at ≡ granules
  pub start_at_size : length start_at ≡ granules

-- what an index keeps: at the first granule of each free run its length and at its last granule its first, and 0 elsewhere;
-- for each length the first granules of the runs that have it; and the lengths that a run has
pub record IsIndex (granules : ℕ) (starts lengths length_at start_at : List ℕ) : Type 0 where
  pub least : 16 ≤ granules
  pub most : granules ≤ 4096
  pub sizes : HaveSizes granules starts lengths length_at start_at
  pub low : (s : ℕ) → 0 < slice_index length_at s → 4 ≤ s
  pub high : (s : ℕ) → 0 < slice_index length_at s → s + slice_index length_at s ≤ granules
  pub apart : (s t : ℕ) → s < t → 0 < slice_index length_at s → 0 < slice_index length_at t → s + slice_index length_at s < t
  pub ends : (s : ℕ) → 0 < slice_index length_at s → slice_index start_at (s + slice_index length_at s - 1) ≡ s
  pub begins : (e : ℕ) → 0 < slice_index start_at e → 0 < slice_index length_at (slice_index start_at e)
  pub reach : (e : ℕ) → 0 < slice_index start_at e → slice_index start_at e + slice_index length_at (slice_index start_at e) ≡ e + 1
  pub starts_are : (n s : ℕ) → n < granules → s < 64 * words_of granules → has starts (run_number granules n s) ≡ (nat_lt 0 n && slice_index length_at s == n)
  pub some : (s : ℕ) → 0 < slice_index length_at s → has lengths (slice_index length_at s) ≡ true
  pub none : (n : ℕ) → 0 < n → ((s : ℕ) → slice_index length_at s ≢ n) → has lengths n ≡ false

-- a free run, or no granule at all
pub record IsRunOrNone (set : FreeSet) (start n : ℕ) : Type 0 where
  pub run : 0 < n → IsFreeRun (IsFree set) start n

-- the free run that ends where granule k begins, or none where no free granule lies there
pub record IsRunBelow (set : FreeSet) (k start n : ℕ) : Type 0 where
  pub meets : start + n ≡ k
  pub run : 0 < n → IsFreeRun (IsFree set) start n
  pub low : (j : ℕ) → j + 1 ≡ start → ¬ (IsFree set j)

-- the free run that begins at granule k, or none where it is not free
pub record IsRunAbove (set : FreeSet) (k n : ℕ) : Type 0 where
  pub run : 0 < n → IsFreeRun (IsFree set) k n
  pub high : ¬ (IsFree set (k + n))

-- the free run that has granule k
pub record IsRunWith (set : FreeSet) (k start n : ℕ) : Type 0 where
  pub run : IsFreeRun (IsFree set) start n
  pub low : start ≤ k
  pub high : k < start + n

-- granules that are not free, with none beside them that is, or none at all
pub record IsRoomFor (set : FreeSet) (start n : ℕ) : Type 0 where
  pub held : IsHeldRow set start n
  pub before : 0 < n → (j : ℕ) → j + 1 ≡ start → ¬ (IsFree set j)
  pub behind : 0 < n → ¬ (IsFree set (start + n))
