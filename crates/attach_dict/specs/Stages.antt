-- The block that is made ready at the stage, and what a dictionary keeps between its calls.
use Rattle.std.specs.Prelude.{◌≡◌, ◌⊎◌, ◌↔◌, ℕ, ◌≤◌, List}
use Rattle.pmem_lines.specs.Pmem.{words_of}
use Rattle.heap_check.specs.Image.{bounds_of, IsExactImage}
use Rattle.heap_check.specs.Sound.{AtMostOne}
use Rattle.image_defects.specs.Count.{IsCount}
use Rattle.arena_core.specs.Arena.{ArenaState}
use Rattle.arena_core.specs.Call.{IsReady}
use Rattle.attach_dict.specs.Dict.{Pair, stage, bytes_for, most_values, HasSome, HasPair, IsDict, IsStaleRoot, IsNextNumber, IsFull, AreNumbersSpent}

-- where the stage is: without a block to come, with one that is not written, with one that is
pub data Phase : Type 0 where
  Idle : Phase
  Staged : (key count : ℕ) → Phase
  Filled : (key : ℕ) (value : List ℕ) → Phase

-- a block for a value of so many words is to be filled
pub record IsStagedFor (phase : Phase) (count : ℕ) : Type 0 where
  pub key : ℕ
  pub is : phase ≡ Staged key count

-- it was filled
pub record HasFilledPhase (phase : Phase) : Type 0 where
  pub key : ℕ
  pub value : List ℕ
  pub is : phase ≡ Filled key value

-- a dictionary: its arena, its map, and its phase
pub record DictState : Type 0 where
  pub arena : ArenaState
  pub pairs : List Pair
  pub phase : Phase

-- a root is stale: its block does not count, or it is the stage and has a block that no call made ready
abbrev pub IsStale : List ℕ → Phase → ℕ → Type 0
IsStale words Idle root = IsStaleRoot words root ⊎ ((root ≡ stage) × HasSome words stage)
IsStale words (Staged key count) root = IsStaleRoot words root
IsStale words (Filled key value) root = IsStaleRoot words root

-- no root is
abbrev pub AreNoneStale : List ℕ → Phase → Type 0
AreNoneStale words phase = (root : ℕ) → ¬ (IsStale words phase root)

-- at most one root is
abbrev pub AtMostOneStale : List ℕ → Phase → Type 0
AtMostOneStale words phase = AtMostOne (IsStale words phase)

-- so many are
abbrev pub IsStaleCount : List ℕ → Phase → ℕ → Type 0
IsStaleCount words phase count = IsCount (IsStale words phase) (bounds_of words).roots count

-- a pair may come: a root is free for it, and a number
pub record HasRoomForPair (words : List ℕ) : Type 0 where
  pub root : ¬ (IsFull words)
  pub number : ¬ (AreNumbersSpent words)

-- the stage's block has room for a value of so many words
pub record HasRoomAt (words : List ℕ) (count : ℕ) : Type 0 where
  pub block : HasSome words stage
  pub few : count ≤ most_values
  pub wide : bytes_for count ≤ block.range.size

-- the stage's block is one of the key and the value, with the number of a new pair
pub record HasNumbered (words : List ℕ) (key : ℕ) (value : List ℕ) : Type 0 where
  pub number : ℕ
  pub next : IsNextNumber words number
  pub pair : HasPair words stage key number value

-- what stands at the stage, and that nothing is stale once a call has made a block ready there
abbrev pub IsAtStage : List ℕ → Phase → Type 0
IsAtStage words Idle = Unit {0}
IsAtStage words (Staged key count) = HasRoomAt words count × HasRoomForPair words × AreNoneStale words (Staged key count)
IsAtStage words (Filled key value) = HasNumbered words key value × HasRoomForPair words × AreNoneStale words (Filled key value)

-- what a dictionary keeps between its calls: the memory may begin one, the image is exact and the dictionary of these pairs
pub record IsKept (s : DictState) : Type 0 where
  pub ready : IsReady s.arena.device
  pub exact : IsExactImage (words_of s.arena.device)
  pub dict : IsDict (words_of s.arena.device) s.pairs
  pub at_stage : IsAtStage (words_of s.arena.device) s.phase

-- laws

-- of an exact image 0 roots are stale by their count exactly where none is
abbrev pub LawOfStaleCounts : Type 0
LawOfStaleCounts = (words : List ℕ) (phase : Phase) → IsExactImage words → IsStaleCount words phase 0 ↔ AreNoneStale words phase
