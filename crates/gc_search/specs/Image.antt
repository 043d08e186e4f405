-- What a search needs, and what it has read of a sound image.
use Rattle.std.specs.Prelude.{◌≡◌, ℕ, List}
use Rattle.pool_layout.specs.Header.{granules_in, IsGcHeader}
use Rattle.image_tables.specs.Tables.{tables_of}
use Rattle.book_log.specs.Book.{Book}
use Rattle.heap_check.specs.Image.{header_in}
use Rattle.image_defects.specs.Log.{AreDisjoint}
use Rattle.gc_check.specs.Heap.{gc_tables}
use Rattle.gc_check.specs.Sound.{AreFewGcLoose}
use Rattle.gc_check.specs.Image.{AreNormalSlabs, IsGcSoundImage}
use Rattle.gc_check.specs.Defects.{AreGcStanding, AreGcUnshared}
use Rattle.gc_search.specs.Known.{IsLogRead}
use Rattle.gc_search.specs.Names.{Names, AreNamesOf}
use Rattle.gc_search.specs.declared.search.GcImage.{GcImage}

-- memory for so many granules is enough for the words: they are as many as its header line says, where this is good
pub record IsRoomFor (words : List ℕ) (granules : ℕ) : Type 0 where
  pub fits : IsGcHeader words (header_in words) → granules ≡ granules_in words

-- the image has no defect of the classes behind the log's
pub record HasGoodHeap (words : List ℕ) : Type 0 where
  pub disjoint : AreDisjoint (tables_of words)
  pub slabs : AreNormalSlabs words
  pub standing : AreGcStanding (gc_tables words)
  pub apart : AreGcUnshared (gc_tables words)
  pub few : AreFewGcLoose (gc_tables words)

-- the image is sound, and the log and the names are those of it
pub record IsSoundBy (words : List ℕ) (log : Book) (names : Names) : Type 0 where
  pub sound : IsGcSoundImage words
  pub book : IsLogRead words log
  pub marks : AreNamesOf words names

abbrev pub IsSoundWith : List ℕ → GcImage → Type 0
IsSoundWith words image = IsSoundBy words image.log image.names
