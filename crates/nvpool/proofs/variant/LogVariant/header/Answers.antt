use Rattle.nvpool.proofs.Images.{log_words, log_image}
use Rattle.nvpool.proofs.variant.LogVariant.header.Goals as goal

pub returns-clause-pool : goal.returns-clause-pool
returns-clause-pool c = log_words c.pool_header.result c.args.words.now c.pool_header.ensures.pool

pub returns-clause-image : goal.returns-clause-image
returns-clause-image c = log_image c.pool_header.result c.args.words.now c.args.bytes c.pool_header.ensures.whole c.pool_header.ensures.pool
