-- The words behind a program's name: the table of its commands, and which words say one of them.
use Rattle.std.specs.Prelude.{◌≡◌, ℕ, ◌<◌, ◌^◌, List, [], ◌∷◌, map, decimal}

-- a command: its first word, the numbers behind it and which they may be, and what it means
pub record Row (Meaning : Type 1) : Type 1 where
  pub text : List ℕ
  pub numbers : List ℕ
  pub fits : Type 0
  pub meaning : Meaning

-- a command of one word
abbrev pub alone : {Meaning : Type 1} → List ℕ → Meaning → Row Meaning
alone text meaning = record { text = text; numbers = []; fits = Unit {0}; meaning = meaning }

-- each of these numbers has 64 bits
abbrev pub AreNumbers : List ℕ → Type 0
AreNumbers [] = Unit {0}
AreNumbers (number ∷ numbers) = (number < 2 ^ 64) × AreNumbers numbers

-- the words say this command: its first word, and its numbers, each in its one decimal form
pub record Says {Meaning : Type 1} (row : Row Meaning) (words : List (List ℕ)) : Type 0 where
  pub text : words ≡ row.text ∷ map decimal row.numbers
  pub numbers : AreNumbers row.numbers
  pub fits : row.fits

-- the words say a command of the table, of whose meaning this holds
pub record SaysOne {Meaning : Type 1} {Command : Type 0} (row_of : Command → Row Meaning) (words : List (List ℕ)) (Holds : Meaning → Type 0) : Type 0 where
  pub command : Command
  pub said : Says (row_of command) words
  pub holds : Holds (row_of command).meaning
