-- Texts that are put together of pieces, one for each number below a bound.
use Rattle.std.specs.Prelude.{◌≡◌, ℕ, zero, suc, List, [], ◌++◌}

-- the pieces of the first n numbers, one behind another
abbrev pub text_below : (ℕ → List ℕ) → ℕ → List ℕ
text_below piece zero = []
text_below piece (suc n) = text_below piece n ++ piece n

-- the text has a piece for each of the first n numbers, in order, and each is right
abbrev pub ArePieces : (ℕ → List ℕ → Type 0) → ℕ → List ℕ → Type 0
ArePieces Is zero text = text ≡ []
ArePieces Is (suc n) text = (before : List ℕ) × (own : List ℕ) × ArePieces Is n before × Is n own × (text ≡ before ++ own)

-- a text of which this holds is added behind another
pub record Adds (Is : List ℕ → Type 0) (old new : List ℕ) : Type 0 where
  pub own : List ℕ
  pub told : Is own
  pub is : new ≡ old ++ own
