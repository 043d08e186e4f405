use Rattle.std.proofs.Common.{None, sym, ◌∙◌, arith}
use Rattle.std.proofs.lemmas.List.{get_or_read, get_or_past}
use Rattle.slab_index.proofs.Views.{class_of_list, block_if_available}
use Rattle.slab_index.proofs.index.SlabIndex.class_at.Goals as goal

pub returns-then-start-self-clause-class : goal.returns-then-start-self-clause-class
returns-then-start-self-clause-class c =
    get_or_read c.self.inside.classes.items c.args.start c.index.result.now (omega (arith, c.self.invariant.classes_size)) c.index.ensures None ∙ sym (class_of_list c.self.view_is c.args.start)

pub returns-then-start-self-clause-blocks : goal.returns-then-start-self-clause-blocks
returns-then-start-self-clause-blocks c = block_if_available c.self.view_is c.self.invariant c.args.start

pub returns-else-start-self-clause-class : goal.returns-else-start-self-clause-class
returns-else-start-self-clause-class c =
    sym (class_of_list c.self.view_is c.args.start ∙ get_or_past c.self.inside.classes.items c.args.start None (omega (arith, c.self.invariant.classes_size)))

pub returns-else-start-self-clause-blocks : goal.returns-else-start-self-clause-blocks
returns-else-start-self-clause-blocks c = block_if_available c.self.view_is c.self.invariant c.args.start
