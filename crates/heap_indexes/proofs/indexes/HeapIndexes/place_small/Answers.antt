use Rattle.heap_indexes.proofs.Ways.{placed_there}
use Rattle.heap_indexes.proofs.indexes.HeapIndexes.place_small.Goals as goal

pub returns-in-Some : goal.returns-in-Some
returns-in-Some c size least b m apart are = placed_there apart are size c.args.class least c.args.seat c.in-Some.block c.take_block.new.self c.in-Some.ensures
