-- The words of an arena of a variant in which nothing was allocated yet.
use Rattle.std.specs.Prelude.{◌≡◌, ℕ, ◌*◌, ◌≤◌, List, length}
use Rattle.pmem_lines.specs.Words.{word_at}
use Rattle.pool_layout.specs.declared.header.PoolHeader.{PoolHeader}
use Rattle.pool_layout.specs.declared.header.PoolVariant.{PoolVariant}
use Rattle.pool_layout.specs.declared.header.PoolVariant.TheVariants.{Log}
use Rattle.pool_layout.specs.Places.{directory_word}
use Rattle.pool_layout.specs.Header.{IsHeaderLine}
use Rattle.heap_model.specs.Machine.{no_heap}
use Rattle.heap_check.specs.Image.{IsExactImage}
use Rattle.heap_check.specs.State.{HasState}

-- the header line says these fields and the length, chunk 0 alone is active, and behind the directory each word is 0
pub record IsFormattedAs (variant : PoolVariant) (words : List ℕ) (fields : PoolHeader) : Type 0 where
  pub header : IsHeaderLine variant words fields
  pub size : length words ≡ 2048 * fields.granules
  pub directory : word_at words directory_word ≡ 1
  pub rest : (word : ℕ) → 3 ≤ word → word_at words word ≡ 0

abbrev pub IsFormatted : List ℕ → PoolHeader → Type 0
IsFormatted words fields = IsFormattedAs Log words fields

-- such an image is exact, and has no block and no slab
abbrev pub LawOfFormatted : Type 0
LawOfFormatted = (words : List ℕ) (header : PoolHeader) → IsFormatted words header → IsExactImage words × HasState words no_heap
