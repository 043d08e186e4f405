-- The header line of an arena. Its text tells the variant; a variant's header line is `IsHeaderLine` with that variant, and what both
-- have in common is said of a variant.
use Rattle.std.specs.Prelude.{◌≡◌, ◌≢◌, ◌⊎◌, ℕ, ◌+◌, ◌*◌, ◌/◌, ◌%◌, ◌^◌, ◌<◌, ◌≤◌, List, length, codes}
use Rattle.std.specs.Int.{from_le_bytes, w64}
use Rattle.pmem_lines.specs.Words.{word_at}
use Rattle.pool_layout.specs.declared.header.PoolHeader.{PoolHeader}
use Rattle.pool_layout.specs.declared.header.PoolVariant.{PoolVariant}
use Rattle.pool_layout.specs.declared.header.PoolVariant.TheVariants.{Log, Gc}
use Rattle.pool_layout.specs.declared.defect.Defect.{Defect}
use Rattle.pool_layout.specs.declared.defect.Defect.TheVariants.{BadLength, BadHeader}
use Rattle.pool_layout.specs.Layout.{layout_of, all_granules, pool_granules, IsVersion}
use Rattle.pool_layout.specs.Places.{text_word, fields_word}

-- the words that stand in the image as these texts
unfoldable pub header_text : ℕ
header_text = from_le_bytes w64 (codes "NVALLOG1")

unfoldable pub gc_text : ℕ
gc_text = from_le_bytes w64 (codes "NVALGC01")

abbrev pub text_of : PoolVariant → ℕ
text_of Log = header_text
text_of Gc = gc_text

-- the fields of the second word
abbrev pub version_field : ℕ → ℕ
version_field word = word % 2 ^ 16

abbrev pub number_field : ℕ → ℕ
number_field word = word / 2 ^ 16 % 2 ^ 16

abbrev pub granules_field : ℕ → ℕ
granules_field word = word / 2 ^ 32 % 2 ^ 16

abbrev pub arenas_field : ℕ → ℕ
arenas_field word = word / 2 ^ 48 % 2 ^ 16

-- the version and the granules of the arena whose words these are
abbrev pub version_in : List ℕ → ℕ
version_in words = version_field (word_at words fields_word)

abbrev pub granules_in : List ℕ → ℕ
granules_in words = granules_field (word_at words fields_word)

-- what the second word says
abbrev pub fields_of : ℕ → PoolHeader
fields_of word = record { version = version_field word; number = number_field word; arenas = arenas_field word; granules = granules_field word }

-- the second word that says it
abbrev pub header_word : PoolHeader → ℕ
header_word header = header.version + 2 ^ 16 * header.number + 2 ^ 32 * header.granules + 2 ^ 48 * header.arenas

-- the fields fit the word
pub record FitsWord (header : PoolHeader) : Type 0 where
  pub version : header.version < 2 ^ 16
  pub number : header.number < 2 ^ 16
  pub arenas : header.arenas < 2 ^ 16
  pub granules : header.granules < 2 ^ 16

-- a pool of the LOG variant may have this header
pub record IsPoolHeader (header : PoolHeader) : Type 0 where
  pub version : IsVersion header.version
  pub some : 1 ≤ header.arenas
  pub most : header.arenas ≤ 16
  pub number : header.number < header.arenas
  pub least : (layout_of header.version).least_granules ≤ header.granules
  pub greatest : header.granules ≤ (layout_of header.version).most_granules
  pub together : all_granules header.arenas header.granules ≤ pool_granules

-- a pool of the GC variant may have it: it is of version 1
pub record IsGcPoolHeader (header : PoolHeader) : Type 0 where
  pub valid : IsPoolHeader header
  pub first : header.version ≡ 1

abbrev pub IsHeaderFor : PoolVariant → PoolHeader → Type 0
IsHeaderFor Log header = IsPoolHeader header
IsHeaderFor Gc header = IsGcPoolHeader header

-- the words begin with the header line that says it
pub record IsHeaderLine (variant : PoolVariant) (words : List ℕ) (header : PoolHeader) : Type 0 where
  pub whole : 8 ≤ length words
  pub text : word_at words text_word ≡ text_of variant
  pub word : word_at words fields_word ≡ header_word header
  pub valid : IsHeaderFor variant header

abbrev pub IsHeader : List ℕ → PoolHeader → Type 0
IsHeader words header = IsHeaderLine Log words header

abbrev pub IsGcHeader : List ℕ → PoolHeader → Type 0
IsGcHeader words header = IsHeaderLine Gc words header

-- the words do not begin with the text, and the defect says so
abbrev pub HasBadText : PoolVariant → List ℕ → Defect → Type 0
HasBadText variant words defect = (word_at words text_word ≢ text_of variant) × (defect ≡ BadHeader text_word (word_at words text_word))

-- the words begin with the text, and this is the word behind it
pub record IsSecondWord (variant : PoolVariant) (words : List ℕ) (word : ℕ) : Type 0 where
  pub text : word_at words text_word ≡ text_of variant
  pub is : word ≡ word_at words fields_word

-- The header line that the words begin with has not the text, or its second word is none of these. The defect names the
-- first such word.
abbrev pub IsBadHeaderLine : PoolVariant → List ℕ → (ℕ → Type 0) → Defect → Type 0
IsBadHeaderLine variant words IsFields defect =
    HasBadText variant words defect
    ⊎ ((word_at words text_word ≡ text_of variant) × ¬ (IsFields (word_at words fields_word)) × (defect ≡ BadHeader fields_word (word_at words fields_word)))

-- the second word of the header line of some arena
abbrev pub IsPoolFields : PoolVariant → ℕ → Type 0
IsPoolFields variant word = (header : PoolHeader) × IsHeaderFor variant header × (word ≡ header_word header)

-- the words do not begin with a header line, and this is the first defect
abbrev pub IsLineDefect : PoolVariant → List ℕ → Defect → Type 0
IsLineDefect variant words defect = ((length words < 8) × (defect ≡ BadLength (8 * length words) 64)) ⊎ ((8 ≤ length words) × IsBadHeaderLine variant words (IsPoolFields variant) defect)

abbrev pub IsHeaderDefect : List ℕ → Defect → Type 0
IsHeaderDefect words defect = IsLineDefect Log words defect

abbrev pub IsGcHeaderDefect : List ℕ → Defect → Type 0
IsGcHeaderDefect words defect = IsLineDefect Gc words defect
