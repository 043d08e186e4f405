use Rattle.heap_map.proofs.Premises.{roots_inside}
use Rattle.heap_map.proofs.reading.read.Goals as goal

pub open_entry-entry-requires-clause-inside : goal.open_entry-entry-requires-clause-inside
open_entry-entry-requires-clause-inside c = roots_inside c.args.words.now c.requires

pub named_starts-requires-clause-inside : goal.named_starts-requires-clause-inside
named_starts-requires-clause-inside c = roots_inside c.args.words.now c.requires

pub named_granules-requires-clause-inside : goal.named_granules-requires-clause-inside
named_granules-requires-clause-inside c = roots_inside c.args.words.now c.requires
