-- Which defect of an image of this variant is the first, in the order of the format. Those of the length, the log and the extents
-- are the ones of `image_defects`.
use Rattle.std.specs.Prelude.{◌≡◌, ◌≢◌, ◌⊎◌, ℕ, ◌<◌, true, List, Some}
use Rattle.pmem_lines.specs.Words.{word_at}
use Rattle.pool_layout.specs.Header.{granules_in, IsGcHeader, IsGcHeaderDefect}
use Rattle.pool_layout.specs.declared.defect.Defect.{Defect}
use Rattle.pool_layout.specs.declared.defect.Defect.TheVariants.{BadSlab, StrayRoot, SharedBlock, TooManyLoose}
use Rattle.image_tables.specs.Tables.{Tables, is_slab, state_word, tables_of}
use Rattle.heap_model.specs.Machine.{Range}
use Rattle.heap_check.specs.Image.{header_in}
use Rattle.heap_check.specs.Sound.{IsLooseLarge, IsEmptySlab}
use Rattle.image_defects.specs.declared.found.Pair.{Pair}
use Rattle.image_defects.specs.Least.{HasNone, IsLeast}
use Rattle.image_defects.specs.Count.{IsCount}
use Rattle.image_defects.specs.Log.{HasDirectory, IsDirectoryDefect, HasEntries, IsEntryDefect, AreDisjoint, IsOverlapDefect}
use Rattle.image_defects.specs.Blocks.{DoOverlap}
use Rattle.image_defects.specs.Defects.{HasLength, IsLengthDefect, Before}
use Rattle.gc_check.specs.Heap.{gc_tables, gc_heap}
use Rattle.gc_check.specs.Sound.{IsGcStanding, AreFewGcLoose}
use Rattle.gc_check.specs.Image.{IsNormalWord, AreNormalSlabs}

-- slabs

-- the state word of a slab does not say Normal with a class and nothing else
pub record IsBadSlab (words : List ℕ) (start : ℕ) : Type 0 where
  pub slab : is_slab words start ≡ true
  pub bad : ¬ (IsNormalWord (word_at words (state_word start)))

-- the lowest such slab, with the word
pub record IsGcSlabDefect (words : List ℕ) (defect : Defect) : Type 0 where
  pub start : ℕ
  pub first : IsLeast (IsBadSlab words) start
  pub is : defect ≡ BadSlab start (word_at words (state_word start))

-- roots

-- a root's word names no block that may stand
pub record IsGcStrayRoot (t : Tables) (root : ℕ) : Type 0 where
  pub some : t.word root ≢ 0
  pub stray : ¬ (IsGcStanding t (t.word root))

-- the lowest such root, with its whole word
pub record IsGcRootDefect (words : List ℕ) (defect : Defect) : Type 0 where
  pub root : ℕ
  pub first : IsLeast (IsGcStrayRoot (gc_tables words)) root
  pub is : defect ≡ StrayRoot root ((gc_tables words).word root)

-- what each root's word says stands where a block may
abbrev pub AreGcStanding : Tables → Type 0
AreGcStanding t = (root : ℕ) → t.word root ≢ 0 → IsGcStanding t (t.word root)

-- shared blocks

-- the blocks of two roots overlap
pub record HasGcShared (t : Tables) (root other : ℕ) : Type 0 where
  pub differ : root ≢ other
  pub range : Range
  pub another : Range
  pub block : gc_heap t root ≡ Some range
  pub second : gc_heap t other ≡ Some another
  pub overlap : DoOverlap range another

-- the block of a root overlaps that of some other
pub record IsGcSharing (t : Tables) (root : ℕ) : Type 0 where
  pub other : ℕ
  pub shared : HasGcShared t root other

-- of the pairs that overlap the one with the lowest first root, and then the lowest second
pub record IsGcSharedDefect (words : List ℕ) (defect : Defect) : Type 0 where
  pub pair : Pair
  pub first : IsLeast (IsGcSharing (gc_tables words)) pair.first
  pub second : IsLeast (HasGcShared (gc_tables words) pair.first) pair.second
  pub is : defect ≡ SharedBlock pair.first pair.second

-- no blocks overlap
abbrev pub AreGcUnshared : Tables → Type 0
AreGcUnshared t = HasNone (IsGcSharing t)

-- loose things

-- so many large extents and so many slabs are loose, and of one of the two more than one
pub record IsGcLooseDefect (words : List ℕ) (defect : Defect) : Type 0 where
  pub large : ℕ
  pub empty : ℕ
  pub larges : IsCount (IsLooseLarge (gc_tables words)) (granules_in words) large
  pub empties : IsCount (IsEmptySlab (gc_tables words)) (granules_in words) empty
  pub many : (1 < large) ⊎ (1 < empty)
  pub is : defect ≡ TooManyLoose large empty 0 0

-- order

-- the first defect of a class and those behind it, class by class

abbrev pub FromShared : List ℕ → Defect → Type 0
FromShared words = Before (IsGcSharedDefect words) (AreGcUnshared (gc_tables words)) (IsGcLooseDefect words)

abbrev pub FromRoots : List ℕ → Defect → Type 0
FromRoots words = Before (IsGcRootDefect words) (AreGcStanding (gc_tables words)) (FromShared words)

abbrev pub FromSlabs : List ℕ → Defect → Type 0
FromSlabs words = Before (IsGcSlabDefect words) (AreNormalSlabs words) (FromRoots words)

abbrev pub FromExtents : List ℕ → Defect → Type 0
FromExtents words = Before (IsOverlapDefect words) (AreDisjoint (tables_of words)) (FromSlabs words)

abbrev pub FromEntries : List ℕ → Defect → Type 0
FromEntries words = Before (IsEntryDefect words) (HasEntries words) (FromExtents words)

abbrev pub FromDirectory : List ℕ → Defect → Type 0
FromDirectory words = Before (IsDirectoryDefect words) (HasDirectory words) (FromEntries words)

abbrev pub FromLength : List ℕ → Defect → Type 0
FromLength words = Before (IsLengthDefect words) (HasLength words) (FromDirectory words)

-- the first defect of an image, in the order of the format
abbrev pub IsFirstGcDefect : List ℕ → Defect → Type 0
IsFirstGcDefect words = Before (IsGcHeaderDefect words) (IsGcHeader words (header_in words)) (FromLength words)

-- the image has no defect of any class
pub record IsGcFaultless (words : List ℕ) : Type 0 where
  pub header : IsGcHeader words (header_in words)
  pub size : HasLength words
  pub directory : HasDirectory words
  pub entries : HasEntries words
  pub disjoint : AreDisjoint (tables_of words)
  pub slabs : AreNormalSlabs words
  pub standing : AreGcStanding (gc_tables words)
  pub apart : AreGcUnshared (gc_tables words)
  pub few : AreFewGcLoose (gc_tables words)
