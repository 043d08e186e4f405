use Rattle.std.proofs.Common.{◌∙◌, arith}
use Rattle.unit_map.proofs.Ranges.{these_more, others_stay}
use Rattle.unit_map.proofs.words.put_range.Goals as goal

pub loop-at-preserved : goal.loop-at-preserved
loop-at-preserved c = record {
  these = these_more c.loop-at.words c.loop-at.at c.args.from c.args.end c.mask_of.result c.masked.result c.args.on (omega arith) c.mask_of.ensures c.masked.ensures c.loop-at.invariant.these;
  others = λ k side. others_stay c.loop-at.words c.loop-at.at c.args.from c.args.end c.mask_of.result c.masked.result c.args.on (omega arith) c.mask_of.ensures c.masked.ensures k side ∙ c.loop-at.invariant.others k side;
}
