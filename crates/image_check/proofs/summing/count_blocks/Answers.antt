use Rattle.std.proofs.Common.{sym, ◌∙◌, true≢false}
use Rattle.image_check.proofs.LooseBlocks.{blocks_one, blocks_none}
use Rattle.image_check.proofs.summing.count_blocks.Goals as goal

pub returns-then-has_loose_entry-clause-count : goal.returns-then-has_loose_entry-clause-count
returns-then-has_loose_entry-clause-count c = blocks_one c.args.words.now c.args.entry c.requires.blocks c.requires.slabs c.requires.extents c.requires.entry (c.has_loose_entry.ensures.0 c.if-has_loose_entry.true)

pub returns-else-has_loose_entry-clause-count : goal.returns-else-has_loose_entry-clause-count
returns-else-has_loose_entry-clause-count c =
    blocks_none c.args.words.now c.args.entry c.requires.blocks c.requires.slabs c.requires.entry (λ loose. true≢false (sym (c.has_loose_entry.ensures.1 loose) ∙ c.if-has_loose_entry.false))
