-- Texts that are traces, and why others are refused.
use Rattle.std.specs.Prelude.{ℕ, List}
use Rattle.trace_text.specs.declared.call.PoolSize.{PoolSize}
use Rattle.trace_text.specs.declared.call.TraceCall.{TraceCall}
use Rattle.trace_text.specs.declared.call.Refusal.TheVariants.{BadLine}
use Rattle.trace_text.specs.Texts.{Lines, IsText, IsFirstOutside}
use Rattle.trace_text.specs.Grammar.{trace_lines}
use Rattle.nvheap.specs.declared.cause.Cause.{Cause}
use Rattle.nvheap.specs.declared.cause.Cause.TheVariants.{Text}

-- what a grammar of traces is: that of all traces, or that of those without moves
abbrev pub Grammar : Type 1
Grammar = Lines PoolSize TraceCall

-- the bytes are a trace of these calls, of a pool of this size
pub record HasTraceOf (grammar : Grammar) (input : List ℕ) : Type 0 where
  pub pool : PoolSize
  pub calls : List TraceCall
  pub trace : IsText grammar input pool calls

-- why a trace is refused, where nothing more is asked of it: a line outside the grammar
abbrev pub RefusesTraceOf : Grammar → List ℕ → Cause → Type 0
RefusesTraceOf grammar input (Text (BadLine line)) = IsFirstOutside grammar input line
RefusesTraceOf grammar input cause = ⊥

-- of all traces
abbrev pub HasTrace : List ℕ → Type 0
HasTrace = HasTraceOf trace_lines

abbrev pub RefusesTrace : List ℕ → Cause → Type 0
RefusesTrace = RefusesTraceOf trace_lines
