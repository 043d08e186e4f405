use Rattle.std.proofs.Common.{◌≡◌, ◌++◌, take, drop}
use Rattle.pmem_lines.specs.Tally.{tallies_kept, tallies_state}
use Rattle.pmem_lines.proofs.picks.pick_lines.Given as goal

abbrev pub invariant-loop-line : goal.invariant-loop-line
invariant-loop-line l = record {
  kept : take l.line l.kept ++ tallies_kept (drop l.line l.tallies) l.picks ≡ tallies_kept l.tallies l.fn.picks;
  state : tallies_state (drop l.line l.tallies) l.picks ≡ tallies_state l.tallies l.fn.picks;
}
