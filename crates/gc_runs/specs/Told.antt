-- What is told of a trace whose calls were made on arenas of this variant, in the order of its lines, as its report, and the devices
-- that went through its journals.
use Rattle.std.specs.Prelude.{◌≡◌, ℕ, List, ◌++◌, length}
use Rattle.std.specs.List.{All}
use Rattle.pmem_lines.specs.Pmem.{PmemState, words_of}
use Rattle.heap_model.specs.declared.block.Block.{Block}
use Rattle.trace_text.specs.declared.call.PoolSize.{PoolSize}
use Rattle.trace_text.specs.declared.call.TraceCall.{TraceCall}
use Rattle.trace_text.specs.Grammar.{IsPool, IsTraceCall, IsStill}
use Rattle.trace_text.specs.Report.{arena_text}
use Rattle.trace_runs.specs.Arenas.{header_for}
use Rattle.trace_runs.specs.Blocks.{blocks_of}
use Rattle.trace_runs.specs.Calls.{calls_of, AreAnswers}
use Rattle.trace_runs.specs.Each.{EachFrom}
use Rattle.trace_runs.specs.Told.{ArenaRun, told_from, devices_of}
use Rattle.gc_check.specs.State.{gc_blocks}
use Rattle.gc_runs.specs.Journals.{HasGcRun}

-- calls that an arena of this variant of this pool may be asked: none moves a block, and the pool is of version 1
pub record AreStillCalls (pool : PoolSize) (calls : List TraceCall) : Type 0 where
  pub sized : IsPool pool
  pub first : pool.version ≡ 1
  pub each : All (IsTraceCall pool.arenas) calls
  pub still : All (λ call. IsStill call.call) calls

-- the device of the arena of this number went through a legal journal that answers the trace's calls of it, in the order of the lines
pub record HasMadeGcCalls (pool : PoolSize) (calls : List TraceCall) (arena : ℕ) (r : ArenaRun) : Type 0 where
  pub answers : AreAnswers (calls_of arena calls) r.journal
  pub run : HasGcRun (header_for pool arena) r.device r.journal r.machine

-- The text is the report of runs that answer the trace's calls, one for each arena of the pool below a number, of each its journal and
-- its heap, and these devices went through them.
pub record IsToldBelow (pool : PoolSize) (calls : List TraceCall) (number : ℕ) (text : List ℕ) (devices : List PmemState) : Type 0 where
  pub runs : List ArenaRun
  pub all : length runs ≡ number
  pub each : EachFrom (HasMadeGcCalls pool calls) 0 runs
  pub told : text ≡ told_from arena_text 0 runs
  pub left : devices ≡ devices_of runs

-- the report of all arenas, and their devices
abbrev pub IsGcReported : PoolSize → List TraceCall → List ℕ → List PmemState → Type 0
IsGcReported pool calls text devices = IsToldBelow pool calls pool.arenas text devices

-- the report of one arena came behind a text, and this device went through its journal
pub record HasToldArena (pool : PoolSize) (calls : List TraceCall) (arena : ℕ) (old new : List ℕ) (device : PmemState) : Type 0 where
  pub run : ArenaRun
  pub made : HasMadeGcCalls pool calls arena run
  pub told : new ≡ old ++ arena_text arena run.journal (blocks_of (words_of run.device) run.machine.block)
  pub left : device ≡ run.device

-- the blocks of an arena of these words, by rising root
abbrev pub gc_blocks_in : List ℕ → List Block
gc_blocks_in words = blocks_of words (gc_blocks words)
