use Rattle.std.proofs.Common.{arith}
use Rattle.image_tables.specs.Tables.{tables_of}
use Rattle.image_reading.proofs.Holding.{large_by, not_aligned, large_far}
use Rattle.image_reading.proofs.held.is_large.Goals as goal

pub returns-then-at-ne0 : goal.returns-then-at-ne0
returns-then-at-ne0 c = not_aligned (tables_of c.args.words.now).large c.args.at (omega arith)

pub returns-then-granule-ge65536 : goal.returns-then-granule-ge65536
returns-then-granule-ge65536 c = large_far c.args.words.now c.args.at c.requires.extents (omega arith)

pub returns : goal.returns
returns c = large_by (tables_of c.args.words.now).large c.args.at c.large_at.result (omega arith) (c.large_at.ensures c.args.words.now c.requires.reads)
