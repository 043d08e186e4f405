use Rattle.std.proofs.Common.{arith}
use Rattle.pool_layout.specs.Header.{granules_in}
use Rattle.image_tables.specs.Tables.{tables_of}
use Rattle.image_check.proofs.LooseBlocks.{few_each}
use Rattle.image_check.proofs.summing.summary_of.Goals as goal

pub overflow_add-result : goal.overflow_add-result
overflow_add-result c =
    let few = few_each (tables_of c.args.words.now) (granules_in c.args.words.now) c.args.loose.now c.requires.loose c.requires.blocks.few in
    omega (arith, few.0)

pub overflow_add-result-2 : goal.overflow_add-result-2
overflow_add-result-2 c =
    let few = few_each (tables_of c.args.words.now) (granules_in c.args.words.now) c.args.loose.now c.requires.loose c.requires.blocks.few in
    omega (arith, few.0, few.1)

pub overflow_add-result-3 : goal.overflow_add-result-3
overflow_add-result-3 c =
    let few = few_each (tables_of c.args.words.now) (granules_in c.args.words.now) c.args.loose.now c.requires.loose c.requires.blocks.few in
    omega (arith, few.0, few.1, few.2)

pub overflow_add-result-4 : goal.overflow_add-result-4
overflow_add-result-4 c =
    let few = few_each (tables_of c.args.words.now) (granules_in c.args.words.now) c.args.loose.now c.requires.loose c.requires.blocks.few in
    omega (arith, few.0, few.1, few.2, few.3)
