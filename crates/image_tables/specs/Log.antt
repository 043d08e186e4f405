-- The log: the entries of the active chunks, in the order in which they count.
use Rattle.std.specs.Prelude.{◌==◌, ◌&&◌, nat_lt, nat_le, ℕ, zero, suc, ◌-◌, ◌/◌, ◌%◌, List, [], ◌∷◌, ◌++◌, flat_map, Bool, if◌then◌else◌}
use Rattle.pmem_lines.specs.Words.{word_at}
use Rattle.pool_layout.specs.Layout.{layout_of}
use Rattle.pool_layout.specs.Places.{directory_word, entry_slot}
use Rattle.pool_layout.specs.Header.{version_in}

-- how many chunks may be active
unfoldable pub most_chunks : ℕ
most_chunks = 8

-- a byte of the directory names a chunk: it is the chunk's number and one
abbrev pub is_chunk_byte : ℕ → Bool
is_chunk_byte byte = nat_lt 0 byte && nat_le byte 16

-- the chunks that the n lowest bytes name, up to the first that names none
abbrev pub chunks_named : ℕ → ℕ → List ℕ
chunks_named zero word = []
chunks_named (suc n) word = if is_chunk_byte (word % 256) then (word % 256 - 1) ∷ chunks_named n (word / 256) else []

-- the active chunks, in the order of the directory
unfoldable pub active_chunks : ℕ → List ℕ
active_chunks directory = chunks_named most_chunks directory

-- a word of the log, where it is an entry
abbrev pub entry_or_none : ℕ → List ℕ
entry_or_none word = if word == 0 then [] else word ∷ []

-- of a row of words the entries among the first n
abbrev pub entries_below : (ℕ → ℕ) → ℕ → List ℕ
entries_below row zero = []
entries_below row (suc n) = entries_below row n ++ entry_or_none (row n)

-- the entries of a chunk, by number
unfoldable pub chunk_log : ℕ → List ℕ → ℕ → List ℕ
chunk_log version words chunk = entries_below (λ entry. word_at words (entry_slot version chunk entry)) (layout_of version).chunk_entries

-- the entries of the log
unfoldable pub log_of : List ℕ → List ℕ
log_of words = flat_map (chunk_log (version_in words) words) (active_chunks (word_at words directory_word))
