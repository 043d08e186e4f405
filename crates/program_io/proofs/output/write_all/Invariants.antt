use Rattle.std.proofs.Common.{length, ◌-◌, ◌≤◌, take}
use Rattle.program_io.specs.Streams.{Takes}
use Rattle.program_io.proofs.output.write_all.Given as goal

abbrev pub invariant-loop-done : goal.invariant-loop-done
invariant-loop-done g l = record {
  within : l.done ≤ length l.text;
  taken : Takes (g.K.Sink.taken l.fn.sink) (g.K.Sink.taken l.sink) (take l.done l.text);
  later : g.K.Sink.faults l.fn.sink ≤ g.K.Sink.faults l.sink;
}

abbrev pub decreases-loop-done : goal.decreases-loop-done
decreases-loop-done g l = length l.text - l.done
