-- Choices of chunks: the active ones but one, and those that are free to be written anew.
use Rattle.std.specs.Prelude.{◌==◌, ◌||◌, not, false, ℕ, zero, suc, ◌+◌, Bool, List, [], ◌∷◌}
use Rattle.std.specs.List.{filter}
use Rattle.pool_layout.specs.Layout.{layout_of}
use Rattle.book_log.specs.Log.{logged}

-- the chunks but one
abbrev pub without : ℕ → List ℕ → List ℕ
without chunk chunks = filter (λ c. not (c == chunk)) chunks

-- so many chunks from one on, by rising number
abbrev pub chunks_from : ℕ → ℕ → List ℕ
chunks_from chunk zero = []
chunks_from chunk (suc n) = chunk ∷ chunks_from (chunk + 1) n

-- some chunks but those
abbrev pub left_by : List ℕ → List ℕ → List ℕ
left_by [] chunks = chunks
left_by (taken ∷ others) chunks = without taken (left_by others chunks)

-- how many chunks a log has, active or not
unfoldable pub all_chunks : ℕ
all_chunks = 16

-- the chunks that are not active, by rising number
abbrev pub spare_chunks : List ℕ → List ℕ
spare_chunks active = left_by active (chunks_from 0 all_chunks)

-- a word among the first n of a row is 0
abbrev pub has_zero : (ℕ → ℕ) → ℕ → Bool
has_zero row zero = false
has_zero row (suc n) = has_zero row n || (row n == 0)

-- the last of the chunks has an entry that is 0
abbrev pub has_space : ℕ → List ℕ → List ℕ → Bool
has_space version words [] = false
has_space version words (chunk ∷ []) = has_zero (logged version words chunk) (layout_of version).chunk_entries
has_space version words (chunk ∷ next ∷ chunks) = has_space version words (next ∷ chunks)
