use Rattle.std.proofs.Common.{arith}
use Rattle.unit_map.proofs.Views.{free_is}
use Rattle.unit_map.proofs.map.UnitMap.used_blocks.Goals as goal

pub returns-clause-blocks : goal.returns-clause-blocks
returns-clause-blocks c = λ i below.
    let told = rw c.deref.ensures.value at (c.held_blocks.ensures.blocks i (omega (arith, below, c.blocks_of.ensures.count))) in
    let clear = free_is c.self.inside.words.items c.self.view_is c.args.start c.args.class c.blocks_of.result c.blocks_of.ensures i in
    (λ out. clear.0 (told.0 out), λ is. told.1 (clear.1 is))
