-- What `replay` means: the report of a trace whose threads make their calls themselves.
use Rattle.trace_runs.specs.Answers.{by_threads}
use Rattle.nvheap.specs.Meaning.{Meaning}
use Rattle.nvheap.specs.Reporting.{reporting}

abbrev pub replaying : Meaning
replaying = reporting by_threads
