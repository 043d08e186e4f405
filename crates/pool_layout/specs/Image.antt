-- The image of a pool: the words of its arenas, one arena after another. Those of the two variants differ by their header lines alone,
-- so what an image is, and what may be wrong with it, is said of a variant.
use Rattle.std.specs.Prelude.{◌≡◌, ◌≢◌, ◌⊎◌, ℕ, ◌*◌, ◌<◌, ◌≤◌, List, length}
use Rattle.pmem_lines.specs.Words.{word_at, words_at}
use Rattle.pool_layout.specs.declared.header.PoolHeader.{PoolHeader}
use Rattle.pool_layout.specs.declared.header.PoolVariant.{PoolVariant}
use Rattle.pool_layout.specs.declared.header.PoolVariant.TheVariants.{Log, Gc}
use Rattle.pool_layout.specs.declared.defect.Defect.{Defect}
use Rattle.pool_layout.specs.declared.defect.Defect.TheVariants.{BadLength}
use Rattle.pool_layout.specs.declared.image.ImageFault.{ImageFault}
use Rattle.pool_layout.specs.declared.image.ImageFault.TheVariants as faults
use Rattle.pool_layout.specs.Places.{text_word, fields_word}
use Rattle.pool_layout.specs.Header.{text_of, header_word, IsHeaderFor, IsHeaderLine, IsBadHeaderLine}
use Rattle.pool_layout.specs.Bytes.{words_of_bytes}

-- the words of an arena, in a pool whose arenas have so many granules
abbrev pub part_of : List ℕ → ℕ → ℕ → List ℕ
part_of words granules arena = words_at words (2048 * granules * arena) (2048 * granules)

-- the header of an arena, in a pool whose arena 0 has this one
abbrev pub header_of_arena : PoolHeader → ℕ → PoolHeader
header_of_arena header arena = record { version = header.version; number = arena; arenas = header.arenas; granules = header.granules }

-- how many bytes a pool with this header has
abbrev pub image_length : PoolHeader → ℕ
image_length header = header.arenas * header.granules * 16384

-- arena 0 of a pool may have this header
pub record IsFirstHeader (variant : PoolVariant) (header : PoolHeader) : Type 0 where
  pub valid : IsHeaderFor variant header
  pub number : header.number ≡ 0

-- the words are the image of a pool whose arena 0 has this header: each arena has its own header line, which says the same
-- but for the arena's number
pub record IsPoolOf (variant : PoolVariant) (words : List ℕ) (header : PoolHeader) : Type 0 where
  pub first : IsFirstHeader variant header
  pub size : length words ≡ header.arenas * header.granules * 2048
  pub each : (arena : ℕ) → arena < header.arenas → IsHeaderLine variant (part_of words header.granules arena) (header_of_arena header arena)

abbrev pub IsPoolImage : List ℕ → PoolHeader → Type 0
IsPoolImage words header = IsPoolOf Log words header

abbrev pub IsGcPoolImage : List ℕ → PoolHeader → Type 0
IsGcPoolImage words header = IsPoolOf Gc words header

-- these are the words of bytes, and there are so many of them
pub record AreWordsOf (words : List ℕ) (size : ℕ) (bytes : List ℕ) : Type 0 where
  pub words_are : words ≡ words_of_bytes bytes
  pub size_is : size ≡ length bytes

-- they are the words of some bytes
pub record AreWords (words : List ℕ) (size : ℕ) : Type 0 where
  pub bytes : List ℕ
  pub are : AreWordsOf words size bytes

-- the bytes are the image of a pool, and these are its words
pub record IsImageIn (variant : PoolVariant) (bytes words : List ℕ) : Type 0 where
  pub words_are : words ≡ words_of_bytes bytes
  pub whole : length bytes ≡ 8 * length words
  pub header : PoolHeader
  pub pool : IsPoolOf variant words header

abbrev pub IsImageOf : List ℕ → List ℕ → Type 0
IsImageOf bytes words = IsImageIn Log bytes words

abbrev pub IsGcImageOf : List ℕ → List ℕ → Type 0
IsGcImageOf bytes words = IsImageIn Gc bytes words

-- what may be wrong

-- the second word of the header line of some pool's arena 0
abbrev pub IsFirstFields : PoolVariant → ℕ → Type 0
IsFirstFields variant word = (header : PoolHeader) × IsFirstHeader variant header × (word ≡ header_word header)

-- the words begin with the header line of a pool's arena 0
pub record IsFirstLine (variant : PoolVariant) (words : List ℕ) (header : PoolHeader) : Type 0 where
  pub text : word_at words text_word ≡ text_of variant
  pub fields : word_at words fields_word ≡ header_word header
  pub valid : IsFirstHeader variant header

-- too few bytes for a header line
pub record IsTooShort (bytes : List ℕ) (arena : ℕ) (defect : Defect) : Type 0 where
  pub short : length bytes < 64
  pub first : arena ≡ 0
  pub is : defect ≡ BadLength (length bytes) 64

-- the header line of arena 0 is bad
pub record HasBadFirst (variant : PoolVariant) (bytes : List ℕ) (arena : ℕ) (defect : Defect) : Type 0 where
  pub enough : 64 ≤ length bytes
  pub first : arena ≡ 0
  pub is : IsBadHeaderLine variant (words_of_bytes bytes) (IsFirstFields variant) defect

-- there are more or fewer bytes than arena 0's header calls for
pub record HasOtherLength (variant : PoolVariant) (bytes : List ℕ) (arena : ℕ) (defect : Defect) : Type 0 where
  pub enough : 64 ≤ length bytes
  pub header : PoolHeader
  pub line : IsFirstLine variant (words_of_bytes bytes) header
  pub other : length bytes ≢ image_length header
  pub first : arena ≡ 0
  pub is : defect ≡ BadLength (length bytes) (image_length header)

-- the header line of an arena is bad, and no earlier one is
pub record HasBadArena (variant : PoolVariant) (bytes : List ℕ) (arena : ℕ) (defect : Defect) : Type 0 where
  pub header : PoolHeader
  pub line : IsFirstLine variant (words_of_bytes bytes) header
  pub size : length bytes ≡ image_length header
  pub later : 1 ≤ arena
  pub inside : arena < header.arenas
  pub before : (earlier : ℕ) → earlier < arena → IsHeaderLine variant (part_of (words_of_bytes bytes) header.granules earlier) (header_of_arena header earlier)
  pub is : IsBadHeaderLine variant (part_of (words_of_bytes bytes) header.granules arena) (λ word. word ≡ header_word (header_of_arena header arena)) defect

-- the bytes are no image of a pool: the first defect, and the arena that has it
abbrev pub IsDefectIn : PoolVariant → List ℕ → ℕ → Defect → Type 0
IsDefectIn variant bytes arena defect = IsTooShort bytes arena defect ⊎ (HasBadFirst variant bytes arena defect ⊎ (HasOtherLength variant bytes arena defect ⊎ HasBadArena variant bytes arena defect))

abbrev pub IsImageDefect : List ℕ → ℕ → Defect → Type 0
IsImageDefect bytes arena defect = IsDefectIn Log bytes arena defect

abbrev pub IsGcImageDefect : List ℕ → ℕ → Defect → Type 0
IsGcImageDefect bytes arena defect = IsDefectIn Gc bytes arena defect

-- what a fault of reading an image says of the bytes, where it is a defect
abbrev pub IfDefect : ImageFault → (ℕ → Defect → Type 0) → Type 0
IfDefect (faults.Memory error) Is = Unit {0}
IfDefect (faults.Defect arena defect) Is = Is arena defect
