-- A set of numbers, kept as the bits of words of 64: number k is bit `k mod 64` of word `k div 64`.
use Rattle.std.specs.Prelude.{◌≡◌, ◌≢◌, ◌==◌, ℕ, ◌+◌, ◌-◌, ◌*◌, ◌/◌, ◌%◌, ◌^◌, ◌<◌, ◌≤◌, min, Bool, true, false, List, length, slice_index, if◌then◌else◌}
use Rattle.std.specs.Int.{bit_at}

-- the number is in the set
unfoldable pub has : List ℕ → ℕ → Bool
has words k = bit_at (slice_index words (k / 64)) (k % 64) == 1

-- the word with the numbers below n, or all of 64
unfoldable pub ones : ℕ → ℕ
ones n = 2 ^ min n 64 - 1

-- a word is another with one bit set or cleared
pub record IsWithBit (old bit : ℕ) (on : Bool) (new : ℕ) : Type 0 where
  pub here : (bit_at new bit == 1) ≡ on
  pub others : (other : ℕ) → other < 64 → other ≢ bit → bit_at new other ≡ bit_at old other

-- a set is another with one number put in or out
pub record IsPut (old : List ℕ) (k : ℕ) (on : Bool) (new : List ℕ) : Type 0 where
  pub size : length new ≡ length old
  pub each : (j : ℕ) → has new j ≡ (if j == k then on else has old j)
  pub others : (i : ℕ) → i ≢ k / 64 → slice_index new i ≡ slice_index old i
  pub fits : ((i : ℕ) → slice_index old i < 2 ^ 64) → (i : ℕ) → slice_index new i < 2 ^ 64

-- of each 64 words those at one place have the numbers below n, and the others are as they were
pub record IsFilled (old : List ℕ) (place n : ℕ) (new : List ℕ) : Type 0 where
  pub size : length new ≡ length old
  pub each : (i : ℕ) → slice_index new i ≡ (if i / 64 == place then ones (n - 64 * (i % 64)) else slice_index old i)

-- none of n numbers from a first on is in the set
pub record HasNoneIn (words : List ℕ) (first n : ℕ) : Type 0 where
  pub none : (k : ℕ) → first ≤ k → k < first + n → has words k ≡ false

-- the number is the lowest of n numbers from a first on that is in the set
pub record IsLeastIn (words : List ℕ) (first n k : ℕ) : Type 0 where
  pub low : first ≤ k
  pub high : k < first + n
  pub is : has words k ≡ true
  pub least : (j : ℕ) → first ≤ j → j < k → has words j ≡ false
