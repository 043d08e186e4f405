use Rattle.std.proofs.Common.{◌≡◌, ◌+◌, ◌≤◌, length}
use Rattle.trace_text.specs.Texts.{lines_of}
use Rattle.trace_text.proofs.Texts.{CallsSoFar}
use Rattle.dict_text.specs.Script.{script_lines}
use Rattle.dict_text.specs.Calls.{calls_of, HasValues}
use Rattle.dict_text.proofs.script.read_calls.Given as goal

abbrev pub invariant-loop-rest : goal.invariant-loop-rest
invariant-loop-rest l = record {
  so_far : CallsSoFar script_lines l.granules (lines_of l.text) (lines_of l.rest) (calls_of l.script) l.many;
  values : HasValues l.script;
  size : l.script.granules ≡ l.granules;
  within : l.many + length l.rest ≤ length l.text;
  few : length l.script.calls.items + length l.rest ≤ length l.text;
}

abbrev pub decreases-loop-rest : goal.decreases-loop-rest
decreases-loop-rest l = length l.rest
