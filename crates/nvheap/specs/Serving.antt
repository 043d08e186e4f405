-- What `serve` means: the report of a trace whose threads send their calls to a server, where each arena's owner makes them.
use Rattle.trace_runs.specs.Answers.{by_owner}
use Rattle.nvheap.specs.Meaning.{Meaning}
use Rattle.nvheap.specs.Reporting.{reporting}

abbrev pub serving : Meaning
serving = reporting by_owner
