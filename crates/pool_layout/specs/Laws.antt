-- Laws of images: bytes are an image or have a first defect, and never both; bytes and words undo each other.
use Rattle.std.specs.Prelude.{◌≡◌, ◌⊎◌, ℕ, ◌*◌, ◌%◌, ◌<◌, ◌^◌, List, ◌++◌, length}
use Rattle.std.specs.List.{All}
use Rattle.pool_layout.specs.declared.header.PoolVariant.{PoolVariant}
use Rattle.pool_layout.specs.declared.defect.Defect.{Defect}
use Rattle.pool_layout.specs.Bytes.{words_of_bytes, bytes_of_words}
use Rattle.pool_layout.specs.Image.{IsImageIn, IsDefectIn}

-- bytes are an image of a variant, or they have a defect as such
abbrev pub LawOfImages : Type 0
LawOfImages = (variant : PoolVariant) (bytes : List ℕ) → ((words : List ℕ) × IsImageIn variant bytes words) ⊎ ((arena : ℕ) × (defect : Defect) × IsDefectIn variant bytes arena defect)

-- an image has no defect
abbrev pub LawOfNoDefect : Type 0
LawOfNoDefect = (variant : PoolVariant) (bytes words : List ℕ) (arena : ℕ) (defect : Defect) → IsImageIn variant bytes words → ¬ (IsDefectIn variant bytes arena defect)

-- bytes have one first defect at most
abbrev pub LawOfOneDefect : Type 0
LawOfOneDefect = (variant : PoolVariant) (bytes : List ℕ) (arena other : ℕ) (defect another : Defect) → IsDefectIn variant bytes arena defect → IsDefectIn variant bytes other another → (arena ≡ other) × (defect ≡ another)

-- words are read back from their bytes
abbrev pub LawOfWordsOfBytes : Type 0
LawOfWordsOfBytes = (words : List ℕ) → All (λ word. word < 2 ^ 64) words → words_of_bytes (bytes_of_words words) ≡ words

-- bytes are written back from their words
abbrev pub LawOfBytesOfWords : Type 0
LawOfBytesOfWords = (bytes : List ℕ) → All (λ byte. byte < 256) bytes → length bytes ≡ 8 * length (words_of_bytes bytes) → bytes_of_words (words_of_bytes bytes) ≡ bytes

-- the words of bytes are those of their pieces, where all but the last are whole words
abbrev pub LawOfPieces : Type 0
LawOfPieces = (bytes more : List ℕ) → length bytes % 8 ≡ 0 → words_of_bytes (bytes ++ more) ≡ words_of_bytes bytes ++ words_of_bytes more
