-- The image of an arena as a whole. Its words have the form that the layout gives them, and what they say, table by
-- table, is sound, exact or steady.
use Rattle.std.specs.Prelude.{◌≡◌, ◌≢◌, ℕ, ◌*◌, ◌<◌, true, List, length}
use Rattle.pmem_lines.specs.Words.{word_at}
use Rattle.pool_layout.specs.declared.header.PoolHeader.{PoolHeader}
use Rattle.pool_layout.specs.Layout.{layout_of}
use Rattle.pool_layout.specs.Places.{fields_word, wal_word}
use Rattle.pool_layout.specs.Header.{version_in, granules_in, fields_of, IsHeader}
use Rattle.image_tables.specs.Forms.{IsWalWord, HasStateBits, IsIndexWord}
use Rattle.image_tables.specs.Tables.{is_slab, state_word, index_word, state_field, wal_lines, tables_of}
use Rattle.book_log.specs.Book.{HasLog}
use Rattle.heap_model.specs.Machine.{Bounds}
use Rattle.heap_check.specs.Sound.{IsSound, IsExact, IsExactBut, IsSteady}

-- the numbers of an arena of these words, by its header
abbrev pub bounds_of : List ℕ → Bounds
bounds_of words = record { roots = (layout_of (version_in words)).roots; first = (layout_of (version_in words)).first_granule; granules = granules_in words }

-- what its header line says
abbrev pub header_in : List ℕ → PoolHeader
header_in words = fields_of (word_at words fields_word)

-- one write-ahead word at most is not 0, and it is an entry
pub record HasWal (words : List ℕ) : Type 0 where
  pub entry : (line : ℕ) → line < wal_lines → word_at words (wal_word line) ≢ 0 → IsWalWord (word_at words (wal_word line))
  pub one : (line other : ℕ) → line < wal_lines → other < wal_lines → word_at words (wal_word line) ≢ 0 → word_at words (wal_word other) ≢ 0 → line ≡ other

-- the state word and the index words of a slab have their fields, and nothing else
pub record HasSlabHeader (words : List ℕ) (start : ℕ) : Type 0 where
  pub state : HasStateBits (word_at words (state_word start))
  pub index : (place : ℕ) → place < state_field words start 24 → IsIndexWord (word_at words (index_word start place))

-- The words have the form of an arena: a header line, the length that it says, a well-formed log, write-ahead words and
-- headers of slabs.
pub record IsFormed (words : List ℕ) : Type 0 where
  pub header : IsHeader words (header_in words)
  pub size : length words ≡ 2048 * granules_in words
  pub log : HasLog (granules_in words) words
  pub wal : HasWal words
  pub slabs : (start : ℕ) → is_slab words start ≡ true → HasSlabHeader words start

-- the image is sound
pub record IsSoundImage (words : List ℕ) : Type 0 where
  pub formed : IsFormed words
  pub sound : IsSound (bounds_of words) (tables_of words)

-- the image is exact
pub record IsExactImage (words : List ℕ) : Type 0 where
  pub formed : IsFormed words
  pub exact : IsExact (bounds_of words) (tables_of words)

-- the image is exact, but for one slab
pub record IsExactButImage (words : List ℕ) (start : ℕ) : Type 0 where
  pub formed : IsFormed words
  pub but : IsExactBut (bounds_of words) (tables_of words) start

-- the image is steady
pub record IsSteadyImage (words : List ℕ) : Type 0 where
  pub formed : IsFormed words
  pub steady : IsSteady (bounds_of words) (tables_of words)
