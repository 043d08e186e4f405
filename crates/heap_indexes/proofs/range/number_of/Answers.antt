use Rattle.std.proofs.Common.{◌+◌, ◌*◌, sym, ap, ◌∙◌}
use Rattle.size_classes.specs.Classes.{class_size}
use Rattle.heap_indexes.proofs.Covers.{number_at}
use Rattle.heap_indexes.proofs.range.number_of.Goals as goal

pub returns-clause-at : goal.returns-clause-at
returns-clause-at c =
    c.requires.block.is ∙ ap (λ n. 16384 * c.args.start + 2048 + n * class_size c.args.class) (sym (number_at c.args.start c.args.class c.args.at c.blocks_from.result c.size_of_class.result c.requires.block c.requires.class c.blocks_from.ensures c.size_of_class.ensures.size))
