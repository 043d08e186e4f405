use Rattle.pool_layout.specs.declared.header.PoolVariant.TheVariants.{Log}
use Rattle.image_defects.proofs.LogDefects.{header_bad}
use Rattle.nvheap.proofs.crashing.room_of.Goals as goal

pub unreachable-requires : goal.unreachable-requires
unreachable-requires c = header_bad Log c.args.image.now c.in-Err.field-0 c.in-Err.ensures.defect c.requires.formed.header
