-- What a source gives and a sink takes, where they tell their bytes, and how often they failed.
use Rattle.std.specs.Prelude.{◌≡◌, ◌⊎◌, ◌<◌, ℕ, ◌-◌, ◌^◌, List, [], ◌++◌, length, Option, Some, None}
use Rattle.pmem_lines.specs.Pmem.{risen}

-- a count of faults rose, or it stands at the end of its type
abbrev pub Rose : ℕ → ℕ → Type 0
Rose old new = (old < new) ⊎ (new ≡ 2 ^ 64 - 1)

-- a call of a source or a sink in memory, which has the numbers of the calls that are to fail, counted from 0: it is counted,
-- up to 2^64 - 1, and the numbers stay
pub record IsCounted (failing later : List ℕ) (calls counted : ℕ) : Type 0 where
  pub same : later ≡ failing
  pub next : counted ≡ risen calls 1

-- a source that had these bytes left gave some, and has those left
abbrev pub Gives : Option (List ℕ) → Option (List ℕ) → List ℕ → Type 0
Gives (Some old) (Some new) bytes = old ≡ bytes ++ new
Gives (Some old) None bytes = ⊥
Gives None new bytes = Unit {0}

-- a source has no bytes left
abbrev pub IsAtEnd : Option (List ℕ) → Type 0
IsAtEnd (Some left) = left ≡ []
IsAtEnd None = Unit {0}

-- a source gave these bytes, and they were all that it had
pub record GivesAll (old new : Option (List ℕ)) (bytes : List ℕ) : Type 0 where
  pub gives : Gives old new bytes
  pub ended : IsAtEnd new

-- a source gave bytes, and this holds of their number
pub record GivesSome (old new : Option (List ℕ)) (Many : ℕ → Type 0) : Type 0 where
  pub bytes : List ℕ
  pub many : Many (length bytes)
  pub gives : Gives old new bytes

-- a sink took these bytes
abbrev pub Takes : Option (List ℕ) → Option (List ℕ) → List ℕ → Type 0
Takes (Some old) new bytes = new ≡ Some (old ++ bytes)
Takes None new bytes = Unit {0}

-- a sink took the front of these bytes
pub record TakesFront (old new : Option (List ℕ)) (bytes : List ℕ) : Type 0 where
  pub front : List ℕ
  pub rest : List ℕ
  pub split : bytes ≡ front ++ rest
  pub takes : Takes old new front
