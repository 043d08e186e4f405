use Rattle.heap_indexes.proofs.Placed.{some_taken, taken_of}
use Rattle.heap_indexes.proofs.indexes.HeapIndexes.take_of.Goals as goal

pub unwrap-requires : goal.unwrap-requires
unwrap-requires c = some_taken c.args.self.now c.take_block.new.self c.args.seat c.args.class c.args.start c.take_block.result c.requires.only c.take_block.ensures

pub returns : goal.returns
returns c = taken_of c.args.self.now c.take_block.new.self c.args.seat c.args.class c.args.start c.unwrap.result c.requires.only (rw c.unwrap.ensures at c.take_block.ensures)
