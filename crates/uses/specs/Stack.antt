-- A stack of records in the heap of an image. It has as many roots as an arena of version 1, the lowest ones of an arena of
-- version 2. Root i names the block of record i, from the lowest on, and no other of them but the last, the stage, names a block.
use Rattle.std.specs.Prelude.{◌≡◌, ℕ, zero, suc, ◌+◌, ◌-◌, ◌/◌, ◌<◌, ◌≤◌, List, [], ◌∷◌, ◌++◌, length, slice_index, slice_index_or, Option, Some, None}
use Rattle.pmem_lines.specs.Words.{word_at}
use Rattle.pmem_lines.specs.Pmem.{words_of}
use Rattle.pool_layout.specs.Layout.{layout_of}
use Rattle.image_tables.specs.Tables.{tables_of}
use Rattle.heap_model.specs.Machine.{Range}
use Rattle.heap_check.specs.Heap.{heap}
use Rattle.heap_check.specs.Image.{IsExactImage, IsSteadyImage}
use Rattle.arena_core.specs.Arena.{ArenaState}
use Rattle.arena_core.specs.Call.{IsReady}

-- the last root of version 1, whose block is being made ready
abbrev pub stage : ℕ
stage = (layout_of 1).roots - 1

-- record i, where there is one
abbrev pub record_at : List (List ℕ) → ℕ → List ℕ
record_at records i = slice_index_or records i []

-- a root names no block
abbrev pub HasNone : List ℕ → ℕ → Type 0
HasNone words root = heap (tables_of words) root ≡ None

-- a root names a block of 64 bytes, and these are its eight words
pub record HasRecord (words : List ℕ) (root : ℕ) (contents : List ℕ) : Type 0 where
  pub range : Range
  pub named : heap (tables_of words) root ≡ Some range
  pub size : range.size ≡ 64
  pub count : length contents ≡ 8
  pub each : (i : ℕ) → i < 8 → word_at words (range.at / 8 + i) ≡ slice_index contents i

-- the heap of these words is the stack of these records, whatever lies on the stage and behind it
pub record IsStack (words : List ℕ) (records : List (List ℕ)) : Type 0 where
  pub few : length records ≤ stage
  pub each : (i : ℕ) → i < length records → HasRecord words i (record_at records i)
  pub none : (root : ℕ) → length records ≤ root → root < stage → HasNone words root

-- it is the stack of some records
pub record HoldsStack (words : List ℕ) : Type 0 where
  pub records : List (List ℕ)
  pub stack : IsStack words records

-- an image is the stack of one list of records at most
abbrev pub LawOfStacks : Type 0
LawOfStacks = (words : List ℕ) (records others : List (List ℕ)) → IsStack words records → IsStack words others → records ≡ others

-- a steady image, which can be recovered, and it is the stack of these records
pub record IsSteadyStack (records : List (List ℕ)) (image : List ℕ) : Type 0 where
  pub steady : IsSteadyImage image
  pub stack : IsStack image records

-- what a stack means: its arena, and its records, the lowest first
pub record StackState : Type 0 where
  pub arena : ArenaState
  pub records : List (List ℕ)

-- what a stack keeps between its calls: its image is exact and the stack of its records, with an empty stage, and its memory
-- may begin a call
pub record IsKept (s : StackState) : Type 0 where
  pub ready : IsReady s.arena.device
  pub exact : IsExactImage (words_of s.arena.device)
  pub stack : IsStack (words_of s.arena.device) s.records
  pub stage : HasNone (words_of s.arena.device) stage

-- the records that the code's count stands for

-- n words from one on
unfoldable pub words_from : List ℕ → ℕ → ℕ → List ℕ
words_from words from zero = []
words_from words from (suc n) = word_at words from ∷ words_from words (from + 1) n

-- the eight words that the block of a root begins with
unfoldable pub contents_of : List ℕ → Option Range → List ℕ
contents_of words None = []
contents_of words (Some range) = words_from words (range.at / 8) 8

-- those of the first n roots
unfoldable pub records_in : List ℕ → ℕ → List (List ℕ)
records_in words zero = []
records_in words (suc n) = records_in words n ++ contents_of words (heap (tables_of words) n) ∷ []
