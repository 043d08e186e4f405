use Rattle.std.proofs.Common.{◌≡◌, ◌++◌, length, take, flat_map}
use Rattle.trace_text.specs.Report.{arena_line, entry_line}
use Rattle.trace_runs.proofs.told.put_report.Given as goal

abbrev pub invariant-loop-entry : goal.invariant-loop-entry
invariant-loop-entry l = l.text.items ≡ (l.fn.text.items ++ arena_line l.number (length l.journal)) ++ flat_map entry_line (take l.entry-index l.journal)
