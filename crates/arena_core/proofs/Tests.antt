-- The other answer of a test.
use Rattle.std.proofs.Common.{◌≡◌, Bool, true, false, not, arith}

pub not_true : (x : Bool) → not x ≡ true → x ≡ false
not_true x is = grind arith

pub not_false : (x : Bool) → not x ≡ false → x ≡ true
not_false x is = grind arith
