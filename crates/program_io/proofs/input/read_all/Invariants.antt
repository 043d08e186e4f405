use Rattle.std.proofs.Common.{◌≡◌, ◌+◌, ◌-◌, ◌%◌, ◌≤◌, vec_len}
use Rattle.program_io.specs.declared.input.Kind.{Kind}
use Rattle.program_io.specs.Inputs.{IsOfKind}
use Rattle.program_io.proofs.Reading.{HasCome}
use Rattle.program_io.proofs.input.read_all.Given as goal

abbrev pub invariant-loop-size : goal.invariant-loop-size
invariant-loop-size g l = record {
  come : HasCome (g.S.Source.left l.fn.source) (g.S.Source.left l.source) l.input l.size;
  within : l.size ≤ l.limit + 1;
  whole : l.size ≤ l.limit → l.size % 8 ≡ 0;
  buffer : vec_len l.piece ≡ 65536;
  fits : (kind : Kind) → IsOfKind kind l.fn.input → IsOfKind kind l.input;
  still : g.S.Source.faults l.source ≡ g.S.Source.faults l.fn.source;
}

abbrev pub decreases-loop-size : goal.decreases-loop-size
decreases-loop-size g l = l.limit + 1 - l.size
