use Rattle.std.proofs.Common.{take}
use Rattle.dict_text.specs.Calls.{calls_of}
use Rattle.dict_runs.proofs.Runs.{IsWrittenSoFar}
use Rattle.dict_runs.proofs.running.report.Given as goal

abbrev pub invariant-loop-call : goal.invariant-loop-call
invariant-loop-call g l = IsWrittenSoFar l.script.granules (take l.call-index (calls_of l.script)) l.dict l.call-index l.fn.out.items l.out.items
