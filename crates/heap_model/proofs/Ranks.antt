-- Which of the blocks of one size, that lie one behind another from a byte on, end before another byte and which begin behind it.
use Rattle.std.proofs.Common.{◌+◌, ◌*◌, ◌/◌, ◌%◌, ◌<◌, ◌≤◌, min, ℕ, arith}
use Rattle.std.proofs.Math.Nat.{mul-le-mul_right, div-mul-le_self}
use Rattle.std.proofs.lemmas.Nat.{div-add-mod', mod_below}
use Rattle.std.proofs.lemmas.Grind.{div_ceil_times}

-- so many sizes, rounded up
abbrev pub ceil : ℕ → ℕ → ℕ
ceil n size = n / size + min 1 (n % size)

-- a block before the one that a byte lies in ends before the byte
pub before : (from size i : ℕ) → i < from / size → i * size + size ≤ from
before from size i less = omega (arith, mul-le-mul_right {m = i + 1} {n = from / size} size (omega arith), div-mul-le_self from size)

-- that one and those behind it end behind the byte
pub not_before : (from size i : ℕ) → 0 < size → from / size ≤ i → from < i * size + size
not_before from size i some more = omega (arith, mul-le-mul_right {m = from / size} {n = i} size more, div-add-mod' from size, mod_below from size some)

-- a block that begins past the bytes before n, and one that does not
pub behind : (n size i : ℕ) → 0 < size → ceil n size ≤ i → n ≤ i * size
behind n size i some more = let up = div_ceil_times n size some in omega (arith, up.0, mul-le-mul_right {m = ceil n size} {n = i} size more)

pub not_behind : (n size i : ℕ) → 0 < size → i < ceil n size → i * size < n
not_behind n size i some less = let up = div_ceil_times n size some in omega (arith, up.1, mul-le-mul_right {m = i + 1} {n = ceil n size} size (omega arith))
