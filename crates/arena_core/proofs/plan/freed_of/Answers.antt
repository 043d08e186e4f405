use Rattle.std.proofs.Common.{arith}
use Rattle.arena_core.proofs.Common.{class_known}
use Rattle.arena_core.proofs.plan.freed_of.Goals as goal

-- a slab has blocks of a class alone
pub size_of_class-requires : goal.size_of_class-requires
size_of_class-requires c = grind (arith, class_known c.in-Small.class c.in-Small.block.number)
