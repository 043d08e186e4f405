-- The image of an arena of this variant as a whole.
use Rattle.std.specs.Prelude.{◌≡◌, ℕ, ◌+◌, ◌*◌, ◌^◌, ◌<◌, true, List}
use Rattle.pmem_lines.specs.Words.{word_at}
use Rattle.pool_layout.specs.Header.{granules_in, IsGcHeader}
use Rattle.image_tables.specs.Forms.{normal_kind}
use Rattle.image_tables.specs.Tables.{is_slab, state_word}
use Rattle.book_log.specs.Book.{HasLog}
use Rattle.heap_check.specs.Image.{bounds_of, header_in}
use Rattle.image_defects.specs.Defects.{HasLength}
use Rattle.gc_check.specs.Heap.{gc_tables}
use Rattle.gc_check.specs.Sound.{IsGcSound, IsGcExact, IsGcExactBut}

-- a state word says Normal with a class, and nothing else
pub record IsNormalWord (word : ℕ) : Type 0 where
  pub class : ℕ
  pub below : class < 36
  pub is : word ≡ normal_kind + 2 ^ 8 * class

-- the state word of each slab does
abbrev pub AreNormalSlabs : List ℕ → Type 0
AreNormalSlabs words = (start : ℕ) → is_slab words start ≡ true → IsNormalWord (word_at words (state_word start))

-- The words have the form of an arena of this variant: a header line, the length that it says, a well-formed log, and state words
-- of slabs. All else of a slab's header and the write-ahead lines may be anything.
pub record IsGcFormed (words : List ℕ) : Type 0 where
  pub header : IsGcHeader words (header_in words)
  pub size : HasLength words
  pub log : HasLog (granules_in words) words
  pub slabs : AreNormalSlabs words

-- the image is sound
pub record IsGcSoundImage (words : List ℕ) : Type 0 where
  pub formed : IsGcFormed words
  pub sound : IsGcSound (bounds_of words) (gc_tables words)

-- the image is exact
pub record IsGcExactImage (words : List ℕ) : Type 0 where
  pub formed : IsGcFormed words
  pub exact : IsGcExact (bounds_of words) (gc_tables words)

-- the image is exact, but for the extent at a start
pub record IsGcExactButImage (words : List ℕ) (start : ℕ) : Type 0 where
  pub formed : IsGcFormed words
  pub but : IsGcExactBut (bounds_of words) (gc_tables words) start
