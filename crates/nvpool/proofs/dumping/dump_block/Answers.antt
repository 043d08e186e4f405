use Rattle.std.proofs.Common.{arith}
use Rattle.nvpool.proofs.dumping.dump_block.Goals as goal

pub write_dump-requires-clause-begins : goal.write_dump-requires-clause-begins
write_dump-requires-clause-begins g c = omega (arith, c.requires.block.begins, g.met.V.Variant.few_granules c.args.words.now c.requires.sound)

pub write_dump-requires-clause-few : goal.write_dump-requires-clause-few
write_dump-requires-clause-few g c = omega (arith, c.requires.block.few, g.met.V.Variant.few_granules c.args.words.now c.requires.sound)
