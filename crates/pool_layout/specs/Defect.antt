-- The texts of the defects: a name, and behind it each number after a space.
use Rattle.std.specs.Prelude.{◌≡◌, ℕ, List, [], ◌∷◌, ◌++◌, decimal, codes, flat_map}
use Rattle.pool_layout.specs.declared.defect.Defect.{Defect}
use Rattle.pool_layout.specs.declared.defect.Defect.TheVariants.{BadLength, BadHeader, BadDirectory, BadEntry, Overlap, BadSlab, BadWal, StrayRoot, SharedBlock, StrayBit, TooManyLoose}

-- a number after a space
abbrev pub spaced_number : ℕ → List ℕ
spaced_number number = 32 ∷ decimal number

-- a name and numbers
abbrev pub named_numbers : List ℕ → List ℕ → List ℕ
named_numbers name numbers = name ++ flat_map spaced_number numbers

-- the text of a defect
abbrev pub defect_text : Defect → List ℕ
defect_text (BadLength have need) = named_numbers (codes "bad length") (have ∷ need ∷ [])
defect_text (BadHeader word value) = named_numbers (codes "bad header") (word ∷ value ∷ [])
defect_text (BadDirectory value) = named_numbers (codes "bad directory") (value ∷ [])
defect_text (BadEntry chunk entry value) = named_numbers (codes "bad entry") (chunk ∷ entry ∷ value ∷ [])
defect_text (Overlap first second) = named_numbers (codes "overlap") (first ∷ second ∷ [])
defect_text (BadSlab start value) = named_numbers (codes "bad slab") (start ∷ value ∷ [])
defect_text (BadWal line value) = named_numbers (codes "bad wal") (line ∷ value ∷ [])
defect_text (StrayRoot root at) = named_numbers (codes "stray root") (root ∷ at ∷ [])
defect_text (SharedBlock first second) = named_numbers (codes "shared block") (first ∷ second ∷ [])
defect_text (StrayBit at) = named_numbers (codes "stray bit") (at ∷ [])
defect_text (TooManyLoose large empty morphing done) = named_numbers (codes "too many loose") (large ∷ empty ∷ morphing ∷ done ∷ [])

-- a text that began as another
pub record IsGrown (old new : List ℕ) : Type 0 where
  pub rest : List ℕ
  pub is : new ≡ old ++ rest
