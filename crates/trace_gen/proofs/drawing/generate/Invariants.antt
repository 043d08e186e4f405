use Rattle.std.proofs.Common.{◌≡◌, ◌-◌, ◌++◌, length}
use Rattle.std.specs.List.{All}
use Rattle.trace_text.specs.Grammar.{IsTraceCall}
use Rattle.trace_gen.specs.Draws.{IsOwn, drawn_from, generated}
use Rattle.trace_gen.proofs.drawing.generate.Given as goal

abbrev pub invariant-loop-number : goal.invariant-loop-number
invariant-loop-number l = record {
  calls : l.calls.items ++ drawn_from (l.count - l.number) l.number l.generator ≡ generated l.count l.seed;
  each : All (IsTraceCall 4) l.calls.items;
  own : All IsOwn l.calls.items;
  many : length l.calls.items ≡ l.number;
}
