-- What the calls of a dictionary do. Each that changes the arena makes one call of it, whose whole clause it has; it says besides
-- what became of the map and the phase, and which map a crash within it leaves.
use Rattle.std.specs.Prelude.{◌≡◌, ◌⊎◌, ◌≢◌, ℕ, List, ◌+◌, ◌∷◌, length, Option, Some, None, Result, Ok, Err, Bool, true, false}
use Rattle.std.specs.Borrow.{Bor}
use Rattle.pmem_lines.specs.Events.{CrashOnly}
use Rattle.pmem_lines.specs.Pmem.{words_of}
use Rattle.heap_model.specs.declared.call.Call.TheVariants as calls
use Rattle.heap_model.specs.declared.call.Reply.{Reply}
use Rattle.heap_model.specs.declared.call.Reply.TheVariants as replies
use Rattle.image_defects.specs.Least.{IsLeast}
use Rattle.arena_core.specs.Arena.{ArenaState}
use Rattle.arena_core.specs.Answered.{IsAnswered, IsMoveAnswered, IsWriteAnswered}
use Rattle.attach_dict.specs.declared.refusal.StageRefusal.{StageRefusal}
use Rattle.attach_dict.specs.declared.refusal.StageRefusal.TheVariants.{Full, NumbersSpent, NoSpace}
use Rattle.attach_dict.specs.declared.refusal.Absent.{Absent}
use Rattle.attach_dict.specs.Dict.{Pair, stage, bytes_for, HasNone, Counts, value_of, Puts, IsNextNumber, IsFreeRoot, IsFull, AreNumbersUpTo, AreNumbersSpent, IsSteadyDict}
use Rattle.attach_dict.specs.Stages.{Phase, Idle, Staged, Filled, DictState, IsStale, AreNoneStale, AtMostOneStale}

-- what a crash leaves within a call of the arena: the map of before or the one of behind
abbrev pub IsEitherDict : List Pair → List Pair → List ℕ → Type 0
IsEitherDict before behind image = IsSteadyDict before image ⊎ IsSteadyDict behind image

-- within its last call of the memory an arena leaves this
abbrev pub Leaves : ArenaState → (List ℕ → Type 0) → Type 0
Leaves arena Left = CrashOnly arena.device.base arena.device.events Left

-- no pair has a number above those of before
abbrev pub KeepsNumbers : DictState → DictState → Type 0
KeepsNumbers old new = (n : ℕ) → AreNumbersUpTo (words_of old.arena.device) n → AreNumbersUpTo (words_of new.arena.device) n

-- the map and the phase are these, and a crash within the call leaves the map
pub record KeepsMap (old new : DictState) (phase : Phase) : Type 0 where
  pub pairs : new.pairs ≡ old.pairs
  pub phase_is : new.phase ≡ phase
  -- the numbers rise no further
  pub numbers : KeepsNumbers old new
  pub crash : Leaves new.arena (IsSteadyDict old.pairs)

-- open

-- a dictionary over an arena that was left as it is
pub record IsOpened (arena : ArenaState) (dict : DictState) : Type 0 where
  pub same : dict.arena ≡ arena
  pub idle : dict.phase ≡ Idle

-- tidy

-- the lowest stale root lost its block
pub record HasTidied (old new : DictState) : Type 0 where
  pub root : ℕ
  pub at : ℕ
  pub size : ℕ
  pub stale : IsLeast (IsStale (words_of old.arena.device) old.phase) root
  pub did : IsAnswered 0 old.arena new.arena (calls.Free root) (replies.Freed at size)
  -- what is stale behind it was so before, and is another root
  pub left : (other : ℕ) → IsStale (words_of new.arena.device) old.phase other → IsStale (words_of old.arena.device) old.phase other × (other ≢ root)
  pub keeps : KeepsMap old new old.phase

-- by the answer: where there is none, nothing was done
abbrev pub IsTidiedBy : DictState → DictState → Bool → Type 0
IsTidiedBy old new true = HasTidied old new
IsTidiedBy old new false = AreNoneStale (words_of old.arena.device) old.phase × (new ≡ old)

-- stage

-- the arena was asked for a block at the stage, and this was answered
pub record HasAsked (old new : DictState) (count : ℕ) (reply : Reply) (phase : Phase) : Type 0 where
  pub room : ¬ (IsFull (words_of old.arena.device))
  pub numbers : ¬ (AreNumbersSpent (words_of old.arena.device))
  pub did : IsAnswered 0 old.arena new.arena (calls.Malloc stage (bytes_for count)) reply
  -- none is stale behind it
  pub tidy : AreNoneStale (words_of new.arena.device) phase
  pub keeps : KeepsMap old new phase

-- the stage has a block for a value of so many words
pub record HasStaged (old new : DictState) (key count : ℕ) : Type 0 where
  pub at : ℕ
  pub size : ℕ
  pub asked : HasAsked old new count (replies.Placed at size) (Staged key count)

-- by the answer: for want of a root or a number nothing was done, and for want of a place the arena refused
abbrev pub IsStagedBy : DictState → DictState → ℕ → ℕ → Result (Unit {0}) StageRefusal → Type 0
IsStagedBy old new key count (Ok done) = HasStaged old new key count
IsStagedBy old new key count (Err Full) = IsFull (words_of old.arena.device) × (new ≡ old)
IsStagedBy old new key count (Err NumbersSpent) = ¬ (IsFull (words_of old.arena.device)) × AreNumbersSpent (words_of old.arena.device) × (new ≡ old)
IsStagedBy old new key count (Err NoSpace) = HasAsked old new count replies.NoSpace old.phase

-- fill

-- the words of a block
abbrev pub block_words : ℕ → ℕ → List ℕ → List ℕ
block_words key number value = key ∷ number ∷ length value ∷ value

-- the stage's block was written, with the number of a new pair
pub record HasFilled (old new : DictState) (key : ℕ) (value : List ℕ) : Type 0 where
  pub number : ℕ
  pub next : IsNextNumber (words_of old.arena.device) number
  pub did : IsWriteAnswered old.arena new.arena stage 0 (block_words key number value) (Ok tt)
  pub keeps : KeepsMap old new (Filled key value)

-- publish

-- the stage's block moved to the lowest free root, and the map has the pair
pub record HasPublished (old new : DictState) (key : ℕ) (value : List ℕ) : Type 0 where
  pub root : ℕ
  pub at : ℕ
  pub size : ℕ
  pub free : IsFreeRoot (words_of old.arena.device) root
  pub did : IsMoveAnswered old.arena new.arena stage root (replies.Moved at size)
  pub puts : Puts old.pairs key (Some value) new.pairs
  pub phase : new.phase ≡ Idle
  -- one root at most is stale behind it
  pub one_stale : AtMostOneStale (words_of new.arena.device) Idle
  -- its block counted for the key before
  pub replaced : (other : ℕ) → IsStale (words_of new.arena.device) Idle other → (had : List ℕ) × Counts (words_of old.arena.device) other key had
  -- the numbers rise by one at most
  pub numbers : (n : ℕ) → AreNumbersUpTo (words_of old.arena.device) n → AreNumbersUpTo (words_of new.arena.device) (n + 1)
  pub crash : Leaves new.arena (IsEitherDict old.pairs new.pairs)

-- cancel

-- the stage lost its block
pub record HasCancelled (old new : DictState) : Type 0 where
  pub at : ℕ
  pub size : ℕ
  pub did : IsAnswered 0 old.arena new.arena (calls.Free stage) (replies.Freed at size)
  pub gone : HasNone (words_of new.arena.device) stage
  -- none is stale behind it
  pub tidy : AreNoneStale (words_of new.arena.device) Idle
  pub keeps : KeepsMap old new Idle

-- get

-- the value of a key, in place
abbrev pub IsGot : List Pair → ℕ → Option (Bor (List ℕ)) → Type 0
IsGot pairs key None = value_of pairs key ≡ None
IsGot pairs key (Some view) = value_of pairs key ≡ Some view.now

-- remove

-- the root whose block counts for the key lost it, and the map has lost the key
pub record HasRemoved (old new : DictState) (key : ℕ) : Type 0 where
  pub root : ℕ
  pub value : List ℕ
  pub at : ℕ
  pub size : ℕ
  pub counts : Counts (words_of old.arena.device) root key value
  pub did : IsAnswered 0 old.arena new.arena (calls.Free root) (replies.Freed at size)
  pub puts : Puts old.pairs key None new.pairs
  pub phase : new.phase ≡ old.phase
  -- none is stale behind it
  pub tidy : AreNoneStale (words_of new.arena.device) old.phase
  -- the numbers rise no further
  pub numbers : KeepsNumbers old new
  pub crash : Leaves new.arena (IsEitherDict old.pairs new.pairs)

-- by the answer: a map that lacks the key is as it was
abbrev pub IsRemovedBy : DictState → DictState → ℕ → Result (Unit {0}) Absent → Type 0
IsRemovedBy old new key (Ok done) = HasRemoved old new key
IsRemovedBy old new key (Err absent) = (value_of old.pairs key ≡ None) × (new ≡ old)

-- laws

-- what is lent of a key is lent again after any calls on other keys
abbrev pub LawOfOtherKeys : Type 0
LawOfOtherKeys = (old new : List Pair) (key other : ℕ) (value : Option (List ℕ)) (view : Option (Bor (List ℕ))) → Puts old key value new → other ≢ key → IsGot old other view → IsGot new other view
