use Rattle.std.proofs.Common.{◌≡◌, take}
use Rattle.trace_gen.specs.Works.{is_placed, is_freed, is_refused, replies_of}
use Rattle.trace_gen.proofs.summary.counted.Given as goal

abbrev pub invariant-loop-entry : goal.invariant-loop-entry
invariant-loop-entry l = record {
  placed : l.tally.placed ≡ replies_of is_placed (take l.entry-index l.journal);
  freed : l.tally.freed ≡ replies_of is_freed (take l.entry-index l.journal);
  refused : l.tally.refused ≡ replies_of is_refused (take l.entry-index l.journal);
}
