-- What a fault says of an image, and what an image is known to be behind each stage.
use Rattle.std.specs.Prelude.{◌≡◌, ◌+◌, ◌≤◌, List, ℕ, length}
use Rattle.pool_layout.specs.declared.defect.Defect.{Defect as Fault}
use Rattle.pool_layout.specs.Layout.{layout_of}
use Rattle.pool_layout.specs.Header.{version_in, granules_in}
use Rattle.book_log.specs.Book.{Book, Reads}
use Rattle.image_tables.specs.Tables.{tables_of}
use Rattle.image_defects.specs.Log.{HasDirectory, HasEntries, AreDisjoint}
use Rattle.image_defects.specs.Headers.{AreGoodSlabs}
use Rattle.image_defects.specs.Wal.{IsGoodWal}
use Rattle.image_defects.specs.Roots.{AreStanding}
use Rattle.image_defects.specs.Blocks.{AreUnshared, AreRooted}
use Rattle.image_reading.specs.declared.slab.Slab.{Slab}
use Rattle.image_reading.specs.Extents.{HasExtents}
use Rattle.image_reading.specs.Slabs.{AreSlabs}
use Rattle.image_reading.specs.Held.{AreSlabsAt}
use Rattle.defect_search.specs.Arena.{IsArena}
use Rattle.image_check.specs.declared.fault.CheckFault.{CheckFault}
use Rattle.image_check.specs.declared.fault.CheckFault.TheVariants as faults
use Rattle.heap_check.specs.Sound.{AreFewLoose}

-- where the fault is a defect
abbrev pub IfDefect : CheckFault → (Fault → Type 0) → Type 0
IfDefect (faults.Memory error) Is = Unit {0}
IfDefect (faults.Defect defect) Is = Is defect

-- Behind the headers of slabs the log is known to be that of the words, and these to be all slabs; extents, slabs and roots
-- lie inside.
pub record AreSlabsRead (words : List ℕ) (log : Book) (slabs : List Slab) : Type 0 where
  pub arena : IsArena words
  pub reads : Reads log words
  pub granules : log.granules ≡ granules_in words
  pub extents : HasExtents words
  pub inside : 2048 + (layout_of (version_in words)).roots ≤ length words
  pub good : AreSlabsAt words
  pub all : AreSlabs words slabs

-- the image has no defect of the last three classes
pub record HasGoodBlocks (words : List ℕ) : Type 0 where
  pub apart : AreUnshared (tables_of words)
  pub rooted : AreRooted (tables_of words)
  pub few : AreFewLoose (tables_of words)

-- nor of the two before them
pub record HasGoodRoots (words : List ℕ) : Type 0 where
  pub wal : IsGoodWal words
  pub standing : AreStanding (tables_of words)
  pub blocks : HasGoodBlocks words

-- nor of the two before those
pub record HasGoodExtents (words : List ℕ) : Type 0 where
  pub disjoint : AreDisjoint (tables_of words)
  pub slabs : AreGoodSlabs words
  pub roots : HasGoodRoots words

-- nor of the two before those
pub record HasGoodLog (words : List ℕ) : Type 0 where
  pub directory : HasDirectory words
  pub entries : HasEntries words
  pub extents : HasGoodExtents words
