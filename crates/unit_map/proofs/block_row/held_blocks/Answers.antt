use Rattle.std.proofs.Common.{◌∙◌}
use Rattle.unit_map.proofs.BlockRows.{tells_none, tells_more, tells_all}
use Rattle.unit_map.proofs.block_row.held_blocks.Goals as goal

pub loop-held-init : goal.loop-held-init
loop-held-init c = record { size = c.no_blocks-set.ensures.size; tells = tells_none c.args.words.now c.args.row c.no_blocks-set.result c.no_blocks-set.ensures.none }

pub loop-held-preserved : goal.loop-held-preserved
loop-held-preserved c = record {
  size = c.put.ensures.size ∙ c.loop-held.invariant.size;
  tells = tells_more c.args.words.now c.args.row c.loop-held.number c.in-Some.held c.loop-held.set c.put.new.words c.loop-held.invariant.tells c.in-Some.ensures c.put.ensures;
}

pub returns-clause-blocks : goal.returns-clause-blocks
returns-clause-blocks c = tells_all c.args.words.now c.args.row c.loop-held.number c.loop-held.set c.loop-held.invariant.tells c.in_default.ensures
