-- Numbers below a bound.
use Rattle.std.specs.Prelude.{◌||◌, ℕ, zero, suc, Bool, false}

-- some number below n passes the test
abbrev pub any_below : (ℕ → Bool) → ℕ → Bool
any_below test zero = false
any_below test (suc n) = test n || any_below test n
