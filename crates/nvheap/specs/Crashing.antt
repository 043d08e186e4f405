-- What `crash A K SEED` and `gc-crash A K SEED` mean: the same, of arenas of the one variant or the other.
use Rattle.std.specs.Prelude.{◌≡◌, ℕ, ◌<◌, ◌≤◌, List, true}
use Rattle.pmem_lines.specs.Pmem.{PmemState, risen}
use Rattle.pool_layout.specs.declared.header.PoolHeader.{PoolHeader}
use Rattle.heap_model.specs.declared.block.Block.{Block}
use Rattle.recover.specs.Recovered.{IsRecoveredDevice}
use Rattle.gc_recover.specs.Recovered.{IsGcRecoveredDevice}
use Rattle.trace_text.specs.declared.call.TraceCall.{TraceCall}
use Rattle.trace_text.specs.declared.call.Refusal.TheVariants.{BadLine, NoArena, NoEvent}
use Rattle.trace_text.specs.Texts.{IsFirstOutside}
use Rattle.trace_text.specs.Grammar.{trace_lines, still_lines}
use Rattle.trace_text.specs.Report.{crash_text}
use Rattle.trace_runs.specs.Arenas.{header_for, formatted}
use Rattle.trace_runs.specs.Blocks.{blocks_in}
use Rattle.trace_runs.specs.Calls.{calls_of}
use Rattle.trace_runs.specs.Runs.{Stage, IsRunOf, total_events}
use Rattle.trace_crashes.specs.Crash.{Variant, log, CrashLeft, IsCrash, HasFewerIn}
use Rattle.gc_runs.specs.Arenas.{gc_formatted}
use Rattle.gc_runs.specs.Runs.{IsGcRunOf}
use Rattle.gc_runs.specs.Told.{gc_blocks_in}
use Rattle.gc_crashes.specs.Crash.{gc}
use Rattle.nvheap.specs.declared.cause.Cause.{Cause}
use Rattle.nvheap.specs.declared.cause.Cause.TheVariants.{Text}
use Rattle.program_io.specs.declared.input.Kind.TheVariants as kinds
use Rattle.nvheap.specs.Outside.{put_device}
use Rattle.nvheap.specs.Meaning.{Places, Meaning, of_input}
use Rattle.nvheap.specs.Traces.{Grammar, HasTraceOf}

-- arenas of one variant, as far as crashes of them are told
pub record Arenas : Type 1 where
  -- the traces that they may be asked
  pub grammar : Grammar
  -- the words of one as it was formatted with a header
  pub formatted : PoolHeader → List ℕ
  -- calls make these stages in it from there on
  pub IsRun : PoolHeader → List TraceCall → List Stage → Type 0
  -- what their variant says of images
  pub variant : Variant
  -- the blocks that words have
  pub blocks : List ℕ → List Block
  -- a device that recovery makes of words
  pub IsDevice : List ℕ → PmemState → Type 0

-- with write-ahead entries, for all traces
abbrev pub log_arenas : Arenas
log_arenas = record { grammar = trace_lines; formatted = formatted; IsRun = IsRunOf; variant = log; blocks = blocks_in; IsDevice = IsRecoveredDevice }

-- without them, for traces without moves
abbrev pub gc_arenas : Arenas
gc_arenas = record { grammar = still_lines; formatted = gc_formatted; IsRun = IsGcRunOf; variant = gc; blocks = gc_blocks_in; IsDevice = IsGcRecoveredDevice }

-- the place of an arena's number has such a device of these words; the other places stay
abbrev pub PutsRecovered : (List ℕ → PmemState → Type 0) → List ℕ → ℕ → Places → Places → Type 0
PutsRecovered IsDevice words arena old new = (device : PmemState) × IsDevice words device × (new ≡ put_device old arena device)

-- The output is the report of what a crash leaves after this event of an arena's calls: on which side of the call under way
-- it stands, and the heap of the image. The place of the arena's number has a recovered device of the image; the other
-- places stay.
pub record AnswersCrash (a : Arenas) (arena event seed : ℕ) (input output : List ℕ) (old new : Places) : Type 0 where
  pub trace : HasTraceOf a.grammar input
  pub inside : arena < trace.pool.arenas
  pub left : CrashLeft
  pub leaves : IsCrash a.variant (a.IsRun (header_for trace.pool arena)) (a.formatted (header_for trace.pool arena)) (calls_of arena trace.calls) event seed left
  pub is : output ≡ crash_text left.call left.side (a.blocks left.image)
  pub shelf : PutsRecovered a.IsDevice left.image arena old new

-- one device is made of an image
abbrev pub MakesOne : List ℕ → ℕ → ℕ → Type 0
MakesOne input old new = new ≡ risen old 1

-- the trace has so many arenas, and not the one that is asked for
pub record LacksArena (grammar : Grammar) (input : List ℕ) (asked arena arenas : ℕ) : Type 0 where
  pub trace : HasTraceOf grammar input
  pub is_asked : arena ≡ asked
  pub is_all : arenas ≡ trace.pool.arenas
  pub lacks : trace.pool.arenas ≤ asked

-- the trace has the arena, whose calls have fewer events than are asked for
pub record LacksEvent (a : Arenas) (input : List ℕ) (arena asked event events : ℕ) : Type 0 where
  pub trace : HasTraceOf a.grammar input
  pub inside : arena < trace.pool.arenas
  pub is_asked : event ≡ asked
  pub fewer : HasFewerIn (a.IsRun (header_for trace.pool arena)) (calls_of arena trace.calls) asked events

-- why a trace is refused: first a line outside the grammar, then the arena, then the event
abbrev pub RefusesCrash : Arenas → ℕ → ℕ → List ℕ → Cause → Type 0
RefusesCrash a asked event input (Text (BadLine line)) = IsFirstOutside a.grammar input line
RefusesCrash a asked event input (Text (NoArena arena arenas)) = LacksArena a.grammar input asked arena arenas
RefusesCrash a asked event input (Text (NoEvent found events)) = LacksEvent a input asked event found events
RefusesCrash a asked event input cause = ⊥

-- the bytes are a trace that has the arena, whose calls have so many events at least
pub record HasEvents (a : Arenas) (arena event : ℕ) (input : List ℕ) : Type 0 where
  pub trace : HasTraceOf a.grammar input
  pub inside : arena < trace.pool.arenas
  pub enough : (stages : List Stage) → a.IsRun (header_for trace.pool arena) (calls_of arena trace.calls) stages → event ≤ total_events stages

abbrev pub crashing : Arenas → ℕ → ℕ → ℕ → Meaning
crashing a arena event seed = record (of_input kinds.Text (AnswersCrash a arena event seed) (RefusesCrash a arena event) (HasEvents a arena event)) { recovers = true; images = MakesOne }
