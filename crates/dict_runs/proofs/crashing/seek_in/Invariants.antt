use Rattle.std.proofs.Common.{take}
use Rattle.dict_text.specs.Calls.{calls_of}
use Rattle.dict_runs.proofs.Searches.{IsSeeking}
use Rattle.dict_runs.proofs.crashing.seek_in.Given as goal

abbrev pub invariant-loop-i : goal.invariant-loop-i
invariant-loop-i l = IsSeeking l.script.granules l.fn.watch.left l.fn.watch.seed (take l.i (calls_of l.script)) l.dict l.i l.watch
