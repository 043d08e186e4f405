-- A number at the front of a text: digits as `decimal` writes them, and then no further digit.
use Rattle.std.specs.Prelude.{◌≡◌, ℕ, ◌<◌, ◌≤◌, ◌^◌, List, [], ◌∷◌, ◌++◌, length, take, drop, decimal}
use Rattle.std.specs.Int.{IsInRange}
use Rattle.std.specs.Str.Parse.{AllDigits, digits_value}

-- the text begins with no digit
abbrev pub BeginsWithoutDigit : List ℕ → Type 0
BeginsWithoutDigit [] = Unit {0}
BeginsWithoutDigit (byte ∷ text) = ¬ (IsInRange 48 57 byte)

-- the digits at the front of the text are these many, and write this value
pub record HasDigits (text : List ℕ) (value many : ℕ) : Type 0 where
  pub within : many ≤ length text
  pub digits : AllDigits 10 (take many text)
  pub ends : BeginsWithoutDigit (drop many text)
  pub writes : digits_value 10 (take many text) ≡ value

-- some digits at the front of the text write more than 64 bits hold
pub record HasTooManyDigits (text : List ℕ) : Type 0 where
  pub many : ℕ
  pub digits : AllDigits 10 (take many text)
  pub large : 2 ^ 64 ≤ digits_value 10 (take many text)

-- the text is this number of 64 bits, and then a rest that begins with no digit
pub record IsNumberThen (text : List ℕ) (number : ℕ) (rest : List ℕ) : Type 0 where
  pub is : text ≡ decimal number ++ rest
  pub fits : number < 2 ^ 64
  pub ends : BeginsWithoutDigit rest
