use Rattle.std.proofs.Common.{arith}
use Rattle.arena_core.proofs.Plans.{block_at_root, named_by_number}
use Rattle.arena_core.proofs.plan.held_in.Goals as goal

pub overflow_sub-result : goal.overflow_sub-result
overflow_sub-result g c = grind (arith, block_at_root c.requires.exact c.requires.named.0 c.args.at c.args.slab.start c.args.slab.class c.requires.slab c.requires.named.1)

pub returns-in-None : goal.returns-in-None
returns-in-None g c = λ root named.
    let block = block_at_root c.requires.exact root c.args.at c.args.slab.start c.args.slab.class c.requires.slab named (grind arith) in
    named_by_number c.requires.exact root c.args.at c.args.slab.start c.args.slab.class c.blocks_at.result c.size_of_class.result (grind arith) c.size_of_class.ensures.size block
