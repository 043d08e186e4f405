-- Which slabs were found unfit for which classes, as a set of numbers: 4096 for each class, one for each granule.
use Rattle.std.specs.Prelude.{◌≡◌, ◌==◌, ℕ, ◌+◌, ◌*◌, ◌/◌, ◌%◌, Bool, true, false, ◌&&◌, nat_lt, List, length, if◌then◌else◌}
use Rattle.bit_words.specs.Numbers.{has}

-- the slab that begins at a granule was found unfit for a class
unfoldable pub is_unfit : List ℕ → (class start : ℕ) → Bool
is_unfit set class start = nat_lt start 4096 && has set (4096 * class + start)

-- There are as many words as 36 classes need; and of each slab that was found unfit it is noted that it was.
pub record AreNoted (set noted : List ℕ) : Type 0 where
  pub size : length set ≡ 2304
  pub noted_size : length noted ≡ 64
  pub covers : (k : ℕ) → has set k ≡ true → has noted (k % 4096) ≡ true

-- a slab went out of the numbers of the classes below one
pub record IsForgottenBelow (old : List ℕ) (start class : ℕ) (new : List ℕ) : Type 0 where
  pub size : length new ≡ length old
  pub each : (k : ℕ) → has new k ≡ (if k % 4096 == start && nat_lt (k / 4096) class then false else has old k)
