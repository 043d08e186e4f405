use Rattle.std.proofs.Common.{◌≡◌, Some, ap, ◌∙◌}
use Rattle.size_classes.specs.Classes.{class_size}
use Rattle.heap_model.specs.Machine.{Range}
use Rattle.heap_indexes.proofs.Freed.{home_of, own_block}
use Rattle.heap_indexes.proofs.indexes.HeapIndexes.free_block.Goals as goal

pub number_of-requires-clause-block : goal.number_of-requires-clause-block
number_of-requires-clause-block c =
    let live = c.requires.live in
    let range : Range = record { at = c.args.at; size = c.args.size } in
    let home = home_of live.apart live.are live.root c.args.slab.start c.args.slab.class range live.named c.requires.small c.requires.home in
    let block = own_block live.apart live.are live.root c.args.slab.start c.args.slab.class range live.named home (c.if-size-size_of_class.true ∙ c.size_of_class.ensures.size) in
    record { number = block.number; within = block.within; is = ap (λ (r : Range). r.at) block.is }

pub returns-then-size-size_of_class-clause-loosened : goal.returns-then-size-size_of_class-clause-loosened
returns-then-size-size_of_class-clause-loosened c b m root apart are named =
    let own : c.args.size ≡ class_size c.args.slab.class = c.if-size-size_of_class.true ∙ c.size_of_class.ensures.size in
    c.free_own.ensures.loosened b m root apart are (named ∙ (λ i. Some (record { at = c.number_of.ensures.at i; size = own i })))
