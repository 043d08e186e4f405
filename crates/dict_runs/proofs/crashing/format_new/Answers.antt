use Rattle.std.proofs.Common.{arith}
use Rattle.dict_runs.proofs.Sizes.{few_granules}
use Rattle.dict_runs.proofs.crashing.format_new.Goals as goal

pub overflow_mul-granules : goal.overflow_mul-granules
overflow_mul-granules c = let few = few_granules c.args.granules c.requires in omega (arith, few)
