-- The blocks of an arena, root by root.
use Rattle.std.specs.Prelude.{ℕ, zero, suc, ◌+◌, List, [], ◌∷◌, ◌++◌, Option, Some, None}
use Rattle.image_tables.specs.Tables.{tables_of}
use Rattle.heap_model.specs.declared.block.Block.{Block}
use Rattle.heap_model.specs.Machine.{Range}
use Rattle.heap_check.specs.Heap.{heap}
use Rattle.heap_check.specs.Image.{bounds_of}

-- a root's block as it is listed, where it has one
abbrev pub listed : ℕ → Option Range → List Block
listed root None = []
listed root (Some range) = record { root = root; at = range.at; size = range.size } ∷ []

-- the blocks of n roots from one on, by rising root
abbrev pub blocks_from : (ℕ → Option Range) → ℕ → ℕ → List Block
blocks_from heap root zero = []
blocks_from heap root (suc n) = listed root (heap root) ++ blocks_from heap (root + 1) n

-- the blocks of a heap, by rising root, in an arena of these words: it has the roots of the version that they say
abbrev pub blocks_of : List ℕ → (ℕ → Option Range) → List Block
blocks_of words heap = blocks_from heap 0 (bounds_of words).roots

-- the blocks that the words themselves have
abbrev pub blocks_in : List ℕ → List Block
blocks_in words = blocks_of words (heap (tables_of words))
