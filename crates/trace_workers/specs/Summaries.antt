-- What the calls of a trace came to, of which each arena has one thread.
use Rattle.std.specs.Prelude.{ℕ, List, length, map}
use Rattle.pmem_lines.specs.Pmem.{PmemState}
use Rattle.heap_model.specs.declared.call.Entry.{Entry}
use Rattle.arena_core.specs.Arena.{ArenaState}
use Rattle.trace_text.specs.declared.call.PoolSize.{PoolSize}
use Rattle.trace_text.specs.declared.call.TraceCall.{TraceCall}
use Rattle.trace_gen.specs.Works.{summary_text}
use Rattle.trace_text.specs.Report.{arena_text}
use Rattle.trace_runs.specs.Answers.{by_threads}
use Rattle.trace_runs.specs.Told.{Telling, IsTold}
use Rattle.trace_workers.specs.declared.telling.Account.{Account}
use Rattle.trace_workers.specs.declared.telling.Account.TheVariants.{Report, Summary}

-- the text is the summary: of each arena what its calls came to, by its journal and the blocks at the end
abbrev pub IsSummed : PoolSize → List TraceCall → List ℕ → List PmemState → Type 0
IsSummed pool calls text devices = IsTold by_threads summary_text pool calls text devices

-- what is told of an arena by its report, or by its summary
abbrev pub telling_of : Account → Telling
telling_of Report = arena_text
telling_of Summary = summary_text

-- for the functions below

-- how long the journal of each arena is
abbrev pub lengths_of : List (List Entry × ArenaState) → List ℕ
lengths_of closed = map (λ c. length c.0) closed
