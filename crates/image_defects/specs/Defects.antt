-- Which defect of an image is the first, in the order of the format.
use Rattle.std.specs.Prelude.{◌≡◌, ◌≢◌, ◌⊎◌, ℕ, ◌*◌, List, length}
use Rattle.pool_layout.specs.declared.defect.Defect.{Defect}
use Rattle.pool_layout.specs.declared.defect.Defect.TheVariants.{BadLength}
use Rattle.pool_layout.specs.Header.{granules_in, IsHeader, IsHeaderDefect}
use Rattle.image_tables.specs.Tables.{tables_of}
use Rattle.heap_check.specs.Image.{header_in, IsSoundImage}
use Rattle.image_defects.specs.Log.{HasDirectory, IsDirectoryDefect, HasEntries, IsEntryDefect, AreDisjoint, IsOverlapDefect}
use Rattle.image_defects.specs.Headers.{AreGoodSlabs, IsSlabDefect}
use Rattle.image_defects.specs.Wal.{IsGoodWal, IsWalDefect}
use Rattle.image_defects.specs.Roots.{AreStanding, IsRootDefect}
use Rattle.image_defects.specs.Blocks.{AreUnshared, IsSharedDefect, AreRooted, IsBitDefect}
use Rattle.image_defects.specs.Loose.{IsLooseDefect}
use Rattle.heap_check.specs.Sound.{AreFewLoose}

-- length

-- there are as many words as the header's granules have
abbrev pub HasLength : List ℕ → Type 0
HasLength words = length words ≡ 2048 * granules_in words

pub record IsLengthDefect (words : List ℕ) (defect : Defect) : Type 0 where
  pub other : length words ≢ 2048 * granules_in words
  pub is : defect ≡ BadLength (8 * length words) (16384 * granules_in words)

-- order

-- A defect of one class, or, where the image has none of that class, what comes after it.
abbrev pub Before : (Defect → Type 0) → Type 0 → (Defect → Type 0) → Defect → Type 0
Before Is None After defect = Is defect ⊎ (None × After defect)

-- the first defect of a class and those behind it, class by class

abbrev pub FromBits : List ℕ → Defect → Type 0
FromBits words = Before (IsBitDefect words) (AreRooted (tables_of words)) (IsLooseDefect words)

abbrev pub FromShared : List ℕ → Defect → Type 0
FromShared words = Before (IsSharedDefect words) (AreUnshared (tables_of words)) (FromBits words)

abbrev pub FromRoots : List ℕ → Defect → Type 0
FromRoots words = Before (IsRootDefect words) (AreStanding (tables_of words)) (FromShared words)

abbrev pub FromWal : List ℕ → Defect → Type 0
FromWal words = Before (IsWalDefect words) (IsGoodWal words) (FromRoots words)

abbrev pub FromSlabs : List ℕ → Defect → Type 0
FromSlabs words = Before (IsSlabDefect words) (AreGoodSlabs words) (FromWal words)

abbrev pub FromExtents : List ℕ → Defect → Type 0
FromExtents words = Before (IsOverlapDefect words) (AreDisjoint (tables_of words)) (FromSlabs words)

abbrev pub FromEntries : List ℕ → Defect → Type 0
FromEntries words = Before (IsEntryDefect words) (HasEntries words) (FromExtents words)

abbrev pub FromDirectory : List ℕ → Defect → Type 0
FromDirectory words = Before (IsDirectoryDefect words) (HasDirectory words) (FromEntries words)

abbrev pub FromLength : List ℕ → Defect → Type 0
FromLength words = Before (IsLengthDefect words) (HasLength words) (FromDirectory words)

-- the first defect of an image, in the order of the format
abbrev pub IsFirstDefect : List ℕ → Defect → Type 0
IsFirstDefect words = Before (IsHeaderDefect words) (IsHeader words (header_in words)) (FromLength words)

-- the image has no defect of any class
pub record IsFaultless (words : List ℕ) : Type 0 where
  pub header : IsHeader words (header_in words)
  pub size : HasLength words
  pub directory : HasDirectory words
  pub entries : HasEntries words
  pub disjoint : AreDisjoint (tables_of words)
  pub slabs : AreGoodSlabs words
  pub wal : IsGoodWal words
  pub standing : AreStanding (tables_of words)
  pub apart : AreUnshared (tables_of words)
  pub rooted : AreRooted (tables_of words)
  pub few : AreFewLoose (tables_of words)

-- an image without a defect is sound, and a sound one has none
abbrev pub LawOfFaultless : Type 0
LawOfFaultless = (words : List ℕ) → (IsFaultless words → IsSoundImage words) × (IsSoundImage words → IsFaultless words)

-- a sound image has no first defect
abbrev pub LawOfNoDefect : Type 0
LawOfNoDefect = (words : List ℕ) (defect : Defect) → IsSoundImage words → ¬ (IsFirstDefect words defect)

-- there is one first defect at most
abbrev pub LawOfOneDefect : Type 0
LawOfOneDefect = (words : List ℕ) (defect other : Defect) → IsFirstDefect words defect → IsFirstDefect words other → defect ≡ other
