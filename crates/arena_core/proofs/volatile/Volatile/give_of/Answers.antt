use Rattle.std.proofs.Common.{◌≡◌, ◌+◌, ◌*◌, arith}
use Rattle.arena_core.proofs.Common.{slab_block}
use Rattle.arena_core.proofs.RootBlocks.{given_here, given_held}
use Rattle.arena_core.proofs.volatile.Volatile.give_of.Given as given
use Rattle.arena_core.proofs.volatile.Volatile.give_of.Goals as goal

-- where the block lies
block_at : (g : given.Over) (c : goal.After-give_small-arg-2-1 g) → c.blocks_at.result + c.unwrap-taken.result.number * c.size_of_class.result ≡ (slab_block c.args.slab.start c.args.slab.class c.unwrap-taken.result.number).at
block_at g c = grind arith

pub give_small-requires-clause-held : goal.give_small-requires-clause-held
give_small-requires-clause-held g c = given_held c.requires.ready c.unwrap-taken.result.number _ (given_here c.requires.ready c.unwrap-taken.result c.unwrap-taken.ensures c.take.ensures) (block_at g c)

pub returns : goal.returns
returns g c =
    let number = c.unwrap-taken.result.number in
    let took = given_here c.requires.ready c.unwrap-taken.result c.unwrap-taken.ensures c.take.ensures in
    grind (arith, block_at)
