-- What is told of a trace that threads carried out, as its report, and the devices that went through its journals.
use Rattle.std.specs.Prelude.{◌≡◌, ℕ, suc, List, [], ◌∷◌, ◌++◌, length, map}
use Rattle.pmem_lines.specs.Pmem.{PmemState, words_of}
use Rattle.heap_model.specs.declared.block.Block.{Block}
use Rattle.heap_model.specs.declared.call.Entry.{Entry}
use Rattle.heap_model.specs.Machine.{Machine}
use Rattle.arena_core.specs.Arena.{ArenaState}
use Rattle.arena_lock.specs.Journal.{calls_by}
use Rattle.trace_text.specs.declared.call.PoolSize.{PoolSize}
use Rattle.trace_text.specs.declared.call.TraceCall.{TraceCall}
use Rattle.trace_text.specs.Report.{arena_text}
use Rattle.trace_runs.specs.Each.{EachFrom}
use Rattle.trace_runs.specs.Answers.{Seats, by_threads, by_owner, asked, calls_in}
use Rattle.trace_runs.specs.Arenas.{header_for, IsNewArena}
use Rattle.trace_runs.specs.Blocks.{blocks_of, blocks_in}
use Rattle.trace_runs.specs.Journals.{HasRun}

-- what became of an arena: its journal, the state that this leads to, and its device
pub record ArenaRun : Type 0 where
  pub journal : List Entry
  pub machine : Machine
  pub device : PmemState

-- The device of the arena of this number went through the journal, by these seats, which is a legal one from the empty heap. Of
-- every thread the journal has just the calls that the thread asks of the arena, in order, each once; so it has nothing else.
pub record HasRunThreads (seats : Seats) (pool : PoolSize) (calls : List TraceCall) (arena : ℕ) (r : ArenaRun) : Type 0 where
  pub run : HasRun (header_for pool arena) r.device (seats arena r.journal) r.machine
  pub threads : (thread : ℕ) → calls_in (calls_by thread r.journal) ≡ asked thread arena calls

-- what is told of an arena: by its number, its journal and the blocks at the end
abbrev pub Telling : Type 0
Telling = ℕ → List Entry → List Block → List ℕ

-- what is told of each arena, from this number on
abbrev pub told_from : Telling → ℕ → List ArenaRun → List ℕ
told_from tell arena [] = []
told_from tell arena (r ∷ rs) = tell arena r.journal (blocks_of (words_of r.device) r.machine.block) ++ told_from tell (suc arena) rs

-- their devices
abbrev pub devices_of : List ArenaRun → List PmemState
devices_of rs = map (λ r. r.device) rs

-- The text tells of runs that answer the trace's calls, one for each arena of the pool, and these devices went through them.
pub record IsTold (seats : Seats) (tell : Telling) (pool : PoolSize) (calls : List TraceCall) (text : List ℕ) (devices : List PmemState) : Type 0 where
  pub runs : List ArenaRun
  pub all : length runs ≡ pool.arenas
  pub each : EachFrom (HasRunThreads seats pool calls) 0 runs
  pub told : text ≡ told_from tell 0 runs
  pub left : devices ≡ devices_of runs

-- the text is the report, of each arena its journal and its heap: the calls were placed by these seats
abbrev pub IsReported : Seats → PoolSize → List TraceCall → List ℕ → List PmemState → Type 0
IsReported seats pool calls text devices = IsTold seats arena_text pool calls text devices

-- by the threads' own
abbrev pub IsReplayed : PoolSize → List TraceCall → List ℕ → List PmemState → Type 0
IsReplayed pool calls text devices = IsReported by_threads pool calls text devices

-- by those of the arenas' owners, while a report's entries bear their threads
abbrev pub IsServed : PoolSize → List TraceCall → List ℕ → List PmemState → Type 0
IsServed pool calls text devices = IsReported by_owner pool calls text devices

-- for the functions below

-- each of these arenas, from this number on, was formatted, and nothing was asked of it since
abbrev pub AreNew : PoolSize → ℕ → List ArenaState → Type 0
AreNew pool arena arenas = EachFrom (λ number a. IsNewArena (header_for pool number) a) arena arenas

-- what is told of an arena as it is, and of its journal
abbrev pub closed_text : Telling → ℕ → List Entry × ArenaState → List ℕ
closed_text tell arena closed = tell arena closed.0 (blocks_in (words_of closed.1.device))

-- of each, from this number on
abbrev pub closed_texts : Telling → ℕ → List (List Entry × ArenaState) → List ℕ
closed_texts tell arena [] = []
closed_texts tell arena (c ∷ cs) = closed_text tell arena c ++ closed_texts tell (suc arena) cs

-- their devices
abbrev pub closed_devices : List (List Entry × ArenaState) → List PmemState
closed_devices cs = map (λ c. c.1.device) cs
