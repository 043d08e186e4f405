use Rattle.heap_map.proofs.Premises.{roots_inside, slabs_of}
use Rattle.heap_map.proofs.block.find.Goals as goal

pub open_entry-entry-requires-clause-inside : goal.open_entry-entry-requires-clause-inside
open_entry-entry-requires-clause-inside c = roots_inside c.args.words.now c.requires

pub held_root-requires-clause-inside : goal.held_root-requires-clause-inside
held_root-requires-clause-inside c = roots_inside c.args.words.now c.requires

pub claims_of-requires-clause-slabs : goal.claims_of-requires-clause-slabs
claims_of-requires-clause-slabs c = slabs_of c.args.words.now c.requires

pub claims_of-requires-clause-inside : goal.claims_of-requires-clause-inside
claims_of-requires-clause-inside c = roots_inside c.args.words.now c.requires
