-- What a migration of an arena of version 1 is.
use Rattle.std.specs.Prelude.{◌≡◌, ℕ, ◌+◌, List, Some, option_map}
use Rattle.pmem_lines.specs.Words.{word_at}
use Rattle.pool_layout.specs.declared.header.PoolHeader.{PoolHeader}
use Rattle.pool_layout.specs.Places.{granule_word}
use Rattle.pool_layout.specs.Header.{version_in, granules_in, IsHeader}
use Rattle.image_tables.specs.Tables.{tables_of}
use Rattle.heap_model.specs.Machine.{Range}
use Rattle.heap_check.specs.Heap.{heap, slabs}
use Rattle.heap_check.specs.Image.{IsExactImage}
use Rattle.heap_check.specs.State.{HaveSameHeap, KeepsBlocks, IsWordOf}
use Rattle.recovery_steps.specs.Parts.{KeepsClasses}
use Rattle.image_raise.specs.Rise.{rise, raised, raised_header}

-- the words begin with a good header line, of this version
pub record HasVersion (words : List ℕ) (version : ℕ) : Type 0 where
  pub header : PoolHeader
  pub line : IsHeader words header
  pub same : header.version ≡ version

-- The new words have the header of version 2, of an arena with nine granules more, and are exact. Their heap is that of the
-- old ones with 147456 added to each address, each block has the words that it had, and each live slab has the class of
-- the one that began nine granules lower.
pub record IsMigrated (words new : List ℕ) : Type 0 where
  pub header : PoolHeader
  pub was : IsHeader words header
  pub now : IsHeader new (raised_header header)
  pub exact : IsExactImage new
  pub blocks : (root : ℕ) → heap (tables_of new) root ≡ option_map (raised rise) (heap (tables_of words) root)
  pub values : (root : ℕ) (range : Range) (k : ℕ) → heap (tables_of words) root ≡ Some range → IsWordOf range k → word_at new (k + granule_word rise) ≡ word_at words k
  pub classes : (start class : ℕ) → slabs (tables_of new) start ≡ Some class → (low : ℕ) × (start ≡ low + rise) × (slabs (tables_of words) low ≡ Some class)

-- The words of an arena of version 1 were made exact: they have the heap that they had, the words of its blocks, and as many
-- granules, and each live slab was one of the same class.
pub record IsMadeExact (words exact : List ℕ) : Type 0 where
  pub image : IsExactImage exact
  pub version : version_in exact ≡ 1
  pub granules : granules_in exact ≡ granules_in words
  pub heap : HaveSameHeap words exact
  pub blocks : KeepsBlocks words exact
  pub slabs : KeepsClasses (tables_of words) (tables_of exact)
