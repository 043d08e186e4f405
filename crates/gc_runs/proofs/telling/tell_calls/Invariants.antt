use Rattle.std.proofs.Common.{take}
use Rattle.trace_runs.specs.Calls.{calls_of}
use Rattle.gc_runs.specs.Kept.{HasToldGc}
use Rattle.gc_runs.proofs.telling.tell_calls.Given as goal

abbrev pub invariant-loop-call : goal.invariant-loop-call
invariant-loop-call g l = HasToldGc l.fn.made l.made (calls_of l.arena (take l.call-index l.calls)) l.fn.text.items l.text.items
