-- For the functions that make one call of a script: which calls of the dictionary they made, and that each call of its arena was
-- looked at.
use Rattle.std.specs.Prelude.{◌≡◌, ◌⊎◌, ℕ, List, length, None}
use Rattle.pmem_lines.specs.Pmem.{words_of}
use Rattle.heap_model.specs.declared.call.Reply.TheVariants as replies
use Rattle.trace_runs.specs.Runs.{Stage}
use Rattle.attach_dict.specs.Dict.{Pair, value_of, IsFull, AreNumbersSpent}
use Rattle.attach_dict.specs.Stages.{DictState, Idle, Staged, Filled, AreNoneStale, IsKept}
use Rattle.attach_dict.specs.Calls.{HasAsked, HasStaged, HasFilled, HasPublished, HasTidied, HasRemoved}
use Rattle.dict_text.specs.declared.report.PlainReply.{PlainReply}
use Rattle.dict_text.specs.declared.report.PlainReply.TheVariants.{Stored, Full, NoSpace, Absent, Removed}
use Rattle.dict_text.specs.Report.{DictReply, reply_of}
use Rattle.dict_runs.specs.declared.making.Came.{Came}
use Rattle.dict_runs.specs.declared.making.Came.TheVariants.{Plain, Read}
use Rattle.dict_runs.specs.Looks.{HasSeen}
use Rattle.dict_runs.specs.Scripts.{got}

-- a call of a script may be made: nothing is staged or stale, and there is a number for a new pair
pub record IsReady (dict : DictState) : Type 0 where
  pub kept : IsKept dict
  pub idle : dict.phase ≡ Idle
  pub tidy : AreNoneStale (words_of dict.arena.device) Idle
  pub numbers : ¬ (AreNumbersSpent (words_of dict.arena.device))

-- what a call came to, behind which the map is this one
abbrev pub came_to : List Pair → Came → DictReply
came_to pairs (Plain reply) = reply_of reply
came_to pairs (Read key) = got (value_of pairs key)

module _ {L : Type 0} (sees : L → Stage → L → Type 0) where
  -- the arena had no place for a pair
  abbrev pub IsUnplaced : ℕ → DictState → L → DictState → L → Type 0
  IsUnplaced count old look new then = HasAsked old new count replies.NoSpace old.phase × HasSeen sees look new then

  -- nothing was done, since every root but the stage has a block
  abbrev pub IsUnrooted : DictState → L → DictState → L → Type 0
  IsUnrooted old look new then = IsFull (words_of old.arena.device) × (new ≡ old) × (then ≡ look)

  -- the stage has a block for a value of so many words, or why it has none
  abbrev pub IsTaken : ℕ → ℕ → DictState → L → DictState → L → PlainReply → Type 0
  IsTaken key count old look new then Stored = HasStaged old new key count × HasSeen sees look new then
  IsTaken key count old look new then Full = IsUnrooted old look new then
  IsTaken key count old look new then NoSpace = IsUnplaced count old look new then
  IsTaken key count old look new then reply = ⊥

  -- what was stale was freed, where a root was
  abbrev pub IsCleared : DictState → L → DictState → L → Type 0
  IsCleared old look new then =
      (AreNoneStale (words_of old.arena.device) old.phase × (new ≡ old) × (then ≡ look)) ⊎ (HasTidied old new × HasSeen sees look new then)

  -- the pair at the stage was published, and then that
  pub record IsShown (old : DictState) (look : L) (new : DictState) (then : L) : Type 0 where
    pub shown : DictState
    pub mid : L
    pub published : (key : ℕ) (value : List ℕ) → old.phase ≡ Filled key value → HasPublished old shown key value
    pub seen : HasSeen sees look shown mid
    pub cleared : IsCleared shown mid new then

  -- the block at the stage was filled, and then that
  pub record IsFilled (value : List ℕ) (old : DictState) (look : L) (new : DictState) (then : L) : Type 0 where
    pub filled : DictState
    pub mid : L
    pub wrote : (key : ℕ) → old.phase ≡ Staged key (length value) → HasFilled old filled key value
    pub seen : HasSeen sees look filled mid
    pub shown : IsShown filled mid new then

  -- a pair was made ready and published
  pub record IsStoredBy (key : ℕ) (value : List ℕ) (old : DictState) (look : L) (new : DictState) (then : L) : Type 0 where
    pub staged : DictState
    pub mid : L
    pub took : HasStaged old staged key (length value)
    pub seen : HasSeen sees look staged mid
    pub filled : IsFilled value staged mid new then

  -- a put, by what it came to
  abbrev pub IsPut : ℕ → List ℕ → DictState → L → DictState → L → PlainReply → Type 0
  IsPut key value old look new then Stored = IsStoredBy key value old look new then
  IsPut key value old look new then Full = IsUnrooted old look new then
  IsPut key value old look new then NoSpace = IsUnplaced (length value) old look new then
  IsPut key value old look new then reply = ⊥

  -- a key went, or was not there
  abbrev pub IsRemovedBy : ℕ → DictState → L → DictState → L → PlainReply → Type 0
  IsRemovedBy key old look new then Removed = HasRemoved old new key × HasSeen sees look new then
  IsRemovedBy key old look new then Absent = (value_of old.pairs key ≡ None) × (new ≡ old) × (then ≡ look)
  IsRemovedBy key old look new then reply = ⊥
