use Rattle.std.proofs.Common.{◌≡◌, ◌-◌, ◌≤◌, length, take}
use Rattle.program_io.specs.Streams.{Gives}
use Rattle.program_io.proofs.input.fill.Given as goal

abbrev pub invariant-loop-done : goal.invariant-loop-done
invariant-loop-done g l = record {
  within : l.done ≤ l.most;
  size : length l.piece ≡ length l.fn.piece;
  gives : Gives (g.S.Source.left l.fn.source) (g.S.Source.left l.source) (take l.done l.piece);
  still : g.S.Source.faults l.source ≡ g.S.Source.faults l.fn.source;
}

abbrev pub decreases-loop-done : goal.decreases-loop-done
decreases-loop-done g l = l.most - l.done
