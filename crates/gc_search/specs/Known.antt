-- What is known of an image once its log is read, and of single slabs and roots of it.
use Rattle.std.specs.Prelude.{◌≡◌, ◌≢◌, ℕ, ◌+◌, ◌/◌, ◌<◌, Bool, true, List}
use Rattle.size_classes.specs.Classes.{class_capacity}
use Rattle.pmem_lines.specs.Words.{word_at}
use Rattle.pool_layout.specs.Header.{granules_in, IsGcHeader}
use Rattle.image_tables.specs.Tables.{Tables, is_slab, state_word}
use Rattle.book_log.specs.Book.{Book, Reads}
use Rattle.heap_model.specs.Machine.{slab_block}
use Rattle.heap_check.specs.Image.{header_in}
use Rattle.image_defects.specs.Defects.{HasLength}
use Rattle.gc_check.specs.Heap.{gc_tables}
use Rattle.gc_check.specs.Sound.{IsGcStanding}
use Rattle.gc_check.specs.Image.{IsNormalWord}

-- the words begin with a header line and have the length that it says, and the log is theirs
pub record IsLogRead (words : List ℕ) (log : Book) : Type 0 where
  pub header : IsGcHeader words (header_in words)
  pub size : HasLength words
  pub reads : Reads log words
  pub granules : log.granules ≡ granules_in words

-- a slab begins so many granules before the one that an address lies in, and a block of the class stands there in it
pub record IsBlockBack (slabs : ℕ → Bool) (class at back : ℕ) : Type 0 where
  pub start : ℕ
  pub number : ℕ
  pub far : start + back ≡ at / 16384
  pub slab : slabs start ≡ true
  pub below : number < class_capacity class
  pub is : at ≡ (slab_block start class number).at

abbrev pub HasClassBlockIn : List ℕ → (class at back : ℕ) → Type 0
HasClassBlockIn words = IsBlockBack (gc_tables words).slab

-- the slab that starts at a granule, if one does, has a state word that says Normal with a class
pub record IsNormalIfSlab (words : List ℕ) (start : ℕ) : Type 0 where
  pub normal : is_slab words start ≡ true → IsNormalWord (word_at words (state_word start))

-- a root has no word, or one whose block may stand where it says
pub record IsGcSettled (t : Tables) (root : ℕ) : Type 0 where
  pub stands : t.word root ≢ 0 → IsGcStanding t (t.word root)
