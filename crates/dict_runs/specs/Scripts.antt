-- The calls of a script, one after another: what each comes to, its calls of the arena, and the maps before it and behind it.
use Rattle.std.specs.Prelude.{◌≡◌, ◌⊎◌, ℕ, List, [], ◌∷◌, length, map, Option, Some, None}
use Rattle.pmem_lines.specs.Events.{IsQuiet}
use Rattle.pmem_lines.specs.Pmem.{PmemState, words_of}
use Rattle.pool_layout.specs.declared.header.PoolHeader.{PoolHeader}
use Rattle.heap_model.specs.declared.call.Call.TheVariants as calls
use Rattle.heap_model.specs.declared.call.Reply.TheVariants as replies
use Rattle.heap_model.specs.Machine.{Bounds, no_heap}
use Rattle.heap_model.specs.Placement.{bare}
use Rattle.image_defects.specs.Least.{IsLeast}
use Rattle.heap_check.specs.Image.{IsExactImage}
use Rattle.trace_runs.specs.Arenas.{bounds_for, formatted}
use Rattle.trace_runs.specs.Runs.{Stage}
use Rattle.attach_dict.specs.Dict.{Pair, stage, bytes_for, Counts, value_of, IsDict, IsNextNumber, IsFreeRoot, IsFull}
use Rattle.attach_dict.specs.Stages.{Idle, IsStale, AreNoneStale}
use Rattle.attach_dict.specs.Calls.{block_words}
use Rattle.dict_text.specs.Script.{DictCall, Put, Get, Del}
use Rattle.dict_text.specs.Report.{DictReply, Stored, Full, NoSpace, Value, Absent, Removed}
use Rattle.dict_runs.specs.Acts.{Ask, Fill, Standing, Leads}

-- one call

-- nothing was asked of the arena
abbrev pub IsIdle : Standing → List Stage → Standing → Type 0
IsIdle from stages to = (stages ≡ []) × (to ≡ from)

-- the lowest stale root lost its block
pub record IsFreed (b : Bounds) (from : Standing) (stages : List Stage) (to : Standing) : Type 0 where
  pub root : ℕ
  pub at : ℕ
  pub size : ℕ
  pub stale : IsLeast (IsStale from.words Idle) root
  pub freed : Stage
  pub free : Leads b from (Ask (calls.Free root)) (replies.Freed at size) freed to
  pub are : stages ≡ freed ∷ []

-- what is stale goes, where a root is; else nothing is done
abbrev pub IsTidied : Bounds → Standing → List Stage → Standing → Type 0
IsTidied b from stages to = (AreNoneStale from.words Idle × IsIdle from stages to) ⊎ IsFreed b from stages to

-- A pair was stored: the stage takes a block, which is written with the number of a new pair and moves to the lowest free root,
-- and what is stale then goes.
pub record IsStored (b : Bounds) (from : Standing) (key : ℕ) (value : List ℕ) (stages : List Stage) (to : Standing) : Type 0 where
  pub at : ℕ
  pub size : ℕ
  pub number : ℕ
  pub root : ℕ
  pub shown_at : ℕ
  pub shown_size : ℕ
  pub staged : Standing
  pub filled : Standing
  pub shown : Standing
  pub first : Stage
  pub second : Stage
  pub third : Stage
  pub rest : List Stage
  pub room : ¬ (IsFull from.words)
  pub take : Leads b from (Ask (calls.Malloc stage (bytes_for (length value)))) (replies.Placed at size) first staged
  pub numbered : IsNextNumber staged.words number
  pub fill : Leads b staged (Fill stage (block_words key number value)) replies.Wrote second filled
  pub free : IsFreeRoot filled.words root
  pub show : Leads b filled (Ask (calls.Move stage root)) (replies.Moved shown_at shown_size) third shown
  pub tidy : IsTidied b shown rest to
  pub are : stages ≡ first ∷ second ∷ third ∷ rest

-- there was no place: the arena was asked, and did nothing
pub record IsUnstored (b : Bounds) (from : Standing) (value : List ℕ) (stages : List Stage) (to : Standing) : Type 0 where
  pub room : ¬ (IsFull from.words)
  pub asked : Stage
  pub take : Leads b from (Ask (calls.Malloc stage (bytes_for (length value)))) replies.NoSpace asked to
  pub are : stages ≡ asked ∷ []

-- a pair went
pub record IsRemoved (b : Bounds) (from : Standing) (key : ℕ) (stages : List Stage) (to : Standing) : Type 0 where
  pub root : ℕ
  pub value : List ℕ
  pub at : ℕ
  pub size : ℕ
  pub counts : Counts from.words root key value
  pub freed : Stage
  pub free : Leads b from (Ask (calls.Free root)) (replies.Freed at size) freed to
  pub are : stages ≡ freed ∷ []

-- what a key has
abbrev pub got : Option (List ℕ) → DictReply
got None = Absent
got (Some words) = Value words

-- a call of a script with this reply, from a place with this map on
abbrev pub IsDone : Bounds → Standing → List Pair → DictCall → DictReply → List Stage → Standing → Type 0
IsDone b from pairs (Put key value) Stored stages to = IsStored b from key value stages to
IsDone b from pairs (Put key value) Full stages to = IsFull from.words × IsIdle from stages to
IsDone b from pairs (Put key value) NoSpace stages to = IsUnstored b from value stages to
IsDone b from pairs (Get key) reply stages to = (reply ≡ got (value_of pairs key)) × IsIdle from stages to
IsDone b from pairs (Del key) Removed stages to = IsRemoved b from key stages to
IsDone b from pairs (Del key) Absent stages to = (value_of pairs key ≡ None) × IsIdle from stages to
IsDone b from pairs call reply stages to = ⊥

-- all calls

-- a call that was made: its reply, its calls of the arena, and the maps before it and behind it
pub record Turn : Type 0 where
  pub reply : DictReply
  pub stages : List Stage
  pub before : List Pair
  pub behind : List Pair

-- what the calls came to
abbrev pub replies_of : List Turn → List DictReply
replies_of turns = map (λ turn. turn.reply) turns

-- from a place with a map on a call makes this turn, and leads to another place
pub record IsTurn (b : Bounds) (from : Standing) (pairs : List Pair) (call : DictCall) (turn : Turn) (to : Standing) : Type 0 where
  pub done : IsDone b from pairs call turn.reply turn.stages to
  pub before : turn.before ≡ pairs
  pub behind : IsDict to.words turn.behind

-- calls make these turns, one after another, and lead to this place with this map
abbrev pub IsRun : Bounds → Standing → List Pair → List DictCall → List Turn → Standing → List Pair → Type 0
IsRun b from pairs [] turns to last = (turns ≡ []) × (to ≡ from) × (last ≡ pairs)
IsRun b from pairs (call ∷ calls) [] to last = ⊥
IsRun b from pairs (call ∷ calls) (turn ∷ turns) to last = (next : Standing) × IsTurn b from pairs call turn next × IsRun b next turn.behind calls turns to last

-- the header of a script's arena
abbrev pub header_of : ℕ → PoolHeader
header_of granules = record { version = 1; number = 0; arenas = 1; granules = granules }

-- as it is formatted it has no block, and no stack has one
abbrev pub beginning : ℕ → Standing
beginning granules = record { words = formatted (header_of granules); line = 0; placed = bare no_heap }

-- the calls make these turns in an arena of so many granules that was formatted just now
abbrev pub IsRunOf : ℕ → List DictCall → List Turn → Standing → List Pair → Type 0
IsRunOf granules calls turns to last = IsRun (bounds_for (header_of granules)) (beginning granules) [] calls turns to last

-- A device went through the calls of a script: its words are those that their run leads to. It is quiet and exact, and it is the
-- dictionary of the map behind them.
pub record IsBehindScript (granules : ℕ) (calls : List DictCall) (turns : List Turn) (pairs : List Pair) (device : PmemState) : Type 0 where
  pub to : Standing
  pub run : IsRunOf granules calls turns to pairs
  pub words : words_of device ≡ to.words
  pub quiet : IsQuiet device.events
  pub exact : IsExactImage (words_of device)
  pub dict : IsDict (words_of device) pairs
