-- What `gc` means: the report of a trace without moves, whose calls are made on arenas of the GC variant, in the order of the lines.
use Rattle.trace_text.specs.Grammar.{still_lines}
use Rattle.gc_runs.specs.Told.{IsGcReported}
use Rattle.nvheap.specs.Meaning.{Meaning}
use Rattle.nvheap.specs.Reporting.{report_of}

abbrev pub gc_reporting : Meaning
gc_reporting = report_of still_lines IsGcReported
