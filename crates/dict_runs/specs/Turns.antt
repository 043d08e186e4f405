-- For the functions that make the calls of a script: where a dictionary stands, and the turn that a call made of it.
use Rattle.std.specs.Prelude.{◌≡◌, ◌≢◌, ℕ, ◌+◌, List, [], ◌∷◌, Some, None}
use Rattle.pmem_lines.specs.Events.{CrashOnly}
use Rattle.pmem_lines.specs.Pmem.{words_of}
use Rattle.heap_model.specs.Machine.{Bounds, Machine}
use Rattle.thread_cache.specs.Stacks.{stacks_of}
use Rattle.heap_check.specs.Image.{bounds_of}
use Rattle.heap_check.specs.State.{HasState}
use Rattle.arena_core.specs.Arena.{ArenaState}
use Rattle.trace_runs.specs.Arenas.{IsNewArena}
use Rattle.trace_runs.specs.Runs.{Stage}
use Rattle.attach_dict.specs.Dict.{Pair, value_of, Puts, AreNumbersUpTo}
use Rattle.attach_dict.specs.Stages.{DictState, Idle, AreNoneStale, IsKept}
use Rattle.attach_dict.specs.Calls.{IsEitherDict}
use Rattle.dict_text.specs.Script.{DictCall, Put, Del}
use Rattle.dict_text.specs.Report.{DictReply, Stored, Removed}
use Rattle.dict_runs.specs.Acts.{Standing}
use Rattle.dict_runs.specs.Looks.{HasSeenAll}
use Rattle.dict_runs.specs.Scripts.{Turn, IsTurn, header_of}

-- a dictionary over an arena of so many granules that was formatted just now
pub record IsNewDict (granules : ℕ) (dict : DictState) : Type 0 where
  pub kept : IsKept dict
  pub arena : IsNewArena (header_of granules) dict.arena
  pub none : dict.pairs ≡ []
  pub idle : dict.phase ≡ Idle

-- where an arena stands, in a state of the machine
abbrev pub standing : ArenaState → Machine → Standing
standing arena machine = record { words = words_of arena.device; line = arena.line; placed = record { machine = machine; stacks = stacks_of arena.stacks } }

-- a dictionary stands there: nothing is staged or stale, and no pair has a number above this one
pub record IsAt (b : Bounds) (s : Standing) (most : ℕ) (dict : DictState) : Type 0 where
  pub kept : IsKept dict
  pub machine : Machine
  pub is : s ≡ standing dict.arena machine
  pub state : HasState (words_of dict.arena.device) machine
  pub bounds : bounds_of (words_of dict.arena.device) ≡ b
  pub idle : dict.phase ≡ Idle
  pub tidy : AreNoneStale (words_of dict.arena.device) Idle
  pub numbers : AreNumbersUpTo (words_of dict.arena.device) most

-- a crash within any of these calls of the arena leaves the one map or the other
abbrev pub AllLeave : List Pair → List Pair → List Stage → Type 0
AllLeave before behind [] = Unit {0}
AllLeave before behind (stage ∷ stages) = CrashOnly stage.words stage.events (IsEitherDict before behind) × AllLeave before behind stages

-- what a call with this reply did to the map
abbrev pub IsChange : DictCall → DictReply → List Pair → List Pair → Type 0
IsChange (Put key value) Stored before behind = Puts before key (Some value) behind
IsChange (Del key) Removed before behind = (value_of before key ≢ None) × Puts before key None behind
IsChange call reply before behind = behind ≡ before

-- a call with this reply made a turn of a dictionary, and each of its calls of the arena was looked at
pub record HasMade {L : Type 0} (sees : L → Stage → L → Type 0) (b : Bounds) (s : Standing) (most : ℕ) (call : DictCall) (old : DictState) (look : L) (new : DictState) (then : L) (reply : DictReply) : Type 0 where
  pub turn : Turn
  pub to : Standing
  pub is : IsTurn b s old.pairs call turn to
  pub at : IsAt b to (most + 1) new
  pub replied : turn.reply ≡ reply
  pub before : turn.before ≡ old.pairs
  pub behind : turn.behind ≡ new.pairs
  pub change : IsChange call reply old.pairs new.pairs
  pub seen : HasSeenAll sees look turn.stages then
  pub leaves : AllLeave old.pairs new.pairs turn.stages
