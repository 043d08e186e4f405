-- The bits of a word of 64, numbered from the least.
use Rattle.std.specs.Prelude.{◌≡◌, ◌≢◌, ◌==◌, ℕ, ◌<◌, Bool}
use Rattle.std.specs.Int.{bit_at}

-- a bit of the word is set
unfoldable pub is_set : ℕ → ℕ → Bool
is_set word bit = bit_at word bit == 1

-- the word is another with one bit set or cleared
pub record IsWithBit (old bit : ℕ) (on : Bool) (new : ℕ) : Type 0 where
  pub here : is_set new bit ≡ on
  pub others : (other : ℕ) → other < 64 → other ≢ bit → is_set new other ≡ is_set old other
