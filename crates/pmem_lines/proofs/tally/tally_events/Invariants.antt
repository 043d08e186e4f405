use Rattle.std.proofs.Common.{◌≡◌, ◌≤◌, length, drop}
use Rattle.pmem_lines.specs.Events.{is_fenced}
use Rattle.pmem_lines.specs.Sim.{events_of}
use Rattle.pmem_lines.specs.Tally.{AreTallies}
use Rattle.pmem_lines.proofs.tally.tally_events.Given as goal

abbrev pub invariant-loop-i : goal.invariant-loop-i
invariant-loop-i l = record {
  within : l.i ≤ length l.recorded;
  fence : l.fenced ≡ is_fenced (events_of (drop l.i l.recorded));
  counted : AreTallies (events_of (drop l.i l.recorded)) l.tallies;
}

abbrev pub decreases-loop-i : goal.decreases-loop-i
decreases-loop-i l = l.i
