-- What `cut A K SEED` means.
use Rattle.std.specs.Prelude.{◌≡◌, ◌≢◌, ℕ, ◌<◌, List}
use Rattle.pmem_lines.specs.Pmem.{PmemState, words_of}
use Rattle.pool_layout.specs.declared.header.PoolHeader.{PoolHeader}
use Rattle.pool_layout.specs.Bytes.{bytes_of_words}
use Rattle.heap_check.specs.Image.{IsSteadyImage}
use Rattle.trace_text.specs.declared.call.PoolSize.{PoolSize}
use Rattle.trace_text.specs.declared.call.TraceCall.{TraceCall}
use Rattle.trace_runs.specs.Arenas.{header_for}
use Rattle.trace_runs.specs.Calls.{calls_of}
use Rattle.trace_runs.specs.Journals.{IsRunThrough}
use Rattle.trace_crashes.specs.Crash.{CrashLeft, IsCrashOf}
use Rattle.map_text.specs.Pieces.{ArePieces}
use Rattle.nvheap.specs.declared.cause.Cause.TheVariants as causes
use Rattle.nvheap.specs.Traces.{HasTrace}
use Rattle.nvheap.specs.Crashing.{log_arenas, RefusesCrash, HasEvents}
use Rattle.nvpool.specs.declared.cause.Cause.{Cause}
use Rattle.nvpool.specs.declared.cause.Cause.TheVariants.{Text}
use Rattle.program_io.specs.declared.input.Kind.TheVariants as kinds
use Rattle.nvpool.specs.Meaning.{Meaning}

-- the words of a device of an arena of this header, which went through a legal journal that answers these calls, in order
pub record AreRunWords (header : PoolHeader) (calls : List TraceCall) (words : List ℕ) : Type 0 where
  pub device : PmemState
  pub run : IsRunThrough header calls device
  pub words_are : words ≡ words_of device

-- The words of the arena of a number, where one was cut: of that one they are its image; any other has the words that all its
-- calls leave.
pub record IsPart (pool : PoolSize) (calls : List TraceCall) (cut : ℕ) (image : List ℕ) (number : ℕ) (words : List ℕ) : Type 0 where
  pub own : number ≡ cut → words ≡ image
  pub other : number ≢ cut → AreRunWords (header_for pool number) (calls_of number calls) words

-- the bytes of such words
pub record IsPartAsBytes (pool : PoolSize) (calls : List TraceCall) (cut : ℕ) (image : List ℕ) (number : ℕ) (bytes : List ℕ) : Type 0 where
  pub words : List ℕ
  pub part : IsPart pool calls cut image number words
  pub bytes_are : bytes ≡ bytes_of_words words

-- these of each of the first so many arenas of a pool, in order
abbrev pub AreParts : PoolSize → List TraceCall → ℕ → List ℕ → ℕ → List ℕ → Type 0
AreParts pool calls cut image count bytes = ArePieces (IsPartAsBytes pool calls cut image) count bytes

-- The output is the bytes of the trace's pool as a power cut leaves it after this event of an arena's calls: that arena has a
-- steady image that such a crash leaves, and all calls of the others are done.
pub record AnswersCut (arena event seed : ℕ) (input output : List ℕ) : Type 0 where
  pub trace : HasTrace input
  pub inside : arena < trace.pool.arenas
  pub left : CrashLeft
  pub leaves : IsCrashOf (header_for trace.pool arena) (calls_of arena trace.calls) event seed left
  pub steady : IsSteadyImage left.image
  pub parts : AreParts trace.pool trace.calls arena left.image trace.pool.arenas output

-- why a trace is refused: as `nvheap crash` refuses it
abbrev pub RefusesCut : ℕ → ℕ → List ℕ → Cause → Type 0
RefusesCut arena event input (Text refusal) = RefusesCrash log_arenas arena event input (causes.Text refusal)
RefusesCut arena event input cause = ⊥

abbrev pub cutting : ℕ → ℕ → ℕ → Meaning
cutting arena event seed = record {
  reads = kinds.Text;
  answers = AnswersCut arena event seed;
  refuses = RefusesCut arena event;
  accepts = HasEvents log_arenas arena event;
}

-- for the functions below

-- the bytes of the words that the calls leave
pub record AreRunAsBytes (header : PoolHeader) (calls : List TraceCall) (bytes : List ℕ) : Type 0 where
  pub words : List ℕ
  pub run : AreRunWords header calls words
  pub bytes_are : bytes ≡ bytes_of_words words
