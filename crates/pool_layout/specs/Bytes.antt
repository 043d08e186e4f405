-- Words as bytes: a word is eight bytes, the least first.
use Rattle.std.specs.Prelude.{ℕ, ◌/◌, List, length, map, flat_map}
use Rattle.std.specs.Int.{from_le_bytes, to_le_bytes, w64}
use Rattle.std.specs.Simd.{first_chunks}

-- the words that these bytes are; fewer than eight at the end are none
unfoldable pub words_of_bytes : List ℕ → List ℕ
words_of_bytes bytes = map (from_le_bytes w64) (first_chunks 8 (length bytes / 8) bytes)

-- the bytes that these words are
unfoldable pub bytes_of_words : List ℕ → List ℕ
bytes_of_words words = flat_map (to_le_bytes w64) words
