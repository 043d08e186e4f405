use Rattle.std.proofs.Common.{subst}
use Rattle.gc_check.specs.Heap.{gc_tables}
use Rattle.gc_map.specs.Places.{IsPlaced}
use Rattle.gc_map.proofs.tallies.count_root.Goals as goal

pub add_place-requires-clause-place : goal.add_place-requires-clause-place
add_place-requires-clause-place c = subst (IsPlaced (gc_tables c.args.words.now) c.args.root) c.in-Some.is c.requires.place
