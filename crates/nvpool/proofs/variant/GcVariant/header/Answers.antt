use Rattle.nvpool.proofs.Images.{gc_words, gc_image}
use Rattle.nvpool.proofs.variant.GcVariant.header.Goals as goal

pub returns-clause-pool : goal.returns-clause-pool
returns-clause-pool c = gc_words c.gc_pool_header.result c.args.words.now c.gc_pool_header.ensures.pool

pub returns-clause-image : goal.returns-clause-image
returns-clause-image c = gc_image c.gc_pool_header.result c.args.words.now c.args.bytes c.gc_pool_header.ensures.whole c.gc_pool_header.ensures.pool
