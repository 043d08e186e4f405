-- What a command means that has the calls of a trace made, and prints their report.
use Rattle.std.specs.Prelude.{◌≡◌, ℕ, List, true}
use Rattle.pmem_lines.specs.Pmem.{PmemState}
use Rattle.trace_text.specs.declared.call.PoolSize.{PoolSize}
use Rattle.trace_text.specs.declared.call.TraceCall.{TraceCall}
use Rattle.trace_text.specs.Grammar.{trace_lines}
use Rattle.trace_runs.specs.Answers.{Seats, by_threads, by_owner}
use Rattle.trace_runs.specs.Told.{IsReported}
use Rattle.program_io.specs.declared.input.Kind.TheVariants as kinds
use Rattle.nvheap.specs.declared.reporting.Crew.{Crew}
use Rattle.nvheap.specs.declared.reporting.Crew.TheVariants.{Workers, Owners}
use Rattle.nvheap.specs.Outside.{put_devices}
use Rattle.nvheap.specs.Meaning.{Places, Meaning, of_input}
use Rattle.nvheap.specs.Traces.{Grammar, HasTraceOf, RefusesTraceOf}

-- what a report is: of a pool and calls, its text, with the devices that the calls were made on
abbrev pub Report : Type 1
Report = PoolSize → List TraceCall → List ℕ → List PmemState → Type 0

-- The output is the report of runs that answer the trace's calls, one for each arena, and the place of each arena's number
-- has the device that went through its run; the other places stay.
pub record AnswersReport (grammar : Grammar) (IsReport : Report) (input output : List ℕ) (old new : Places) : Type 0 where
  pub trace : HasTraceOf grammar input
  pub devices : List PmemState
  pub reported : IsReport trace.pool trace.calls output devices
  pub put : new ≡ put_devices old 0 devices

abbrev pub report_of : Grammar → Report → Meaning
report_of grammar IsReport = of_input kinds.Text (AnswersReport grammar IsReport) (RefusesTraceOf grammar) (HasTraceOf grammar)

-- threads make the calls, and blocks are placed by these seats
abbrev pub reporting : Seats → Meaning
reporting seats = record (report_of trace_lines (IsReported seats)) { waits = true }

-- for the functions below

-- the seats of those who make the calls
abbrev pub seats_of : Crew → Seats
seats_of Workers = by_threads
seats_of Owners = by_owner
