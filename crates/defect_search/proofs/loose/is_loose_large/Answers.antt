use Rattle.std.proofs.Common.{arith}
use Rattle.defect_search.proofs.Common.{version_in, layout_rules}
use Rattle.defect_search.proofs.Marks.{loose_large_by}
use Rattle.defect_search.proofs.loose.is_loose_large.Goals as goal

pub returns : goal.returns
returns c =
    let large = c.large_at.ensures c.args.words.now c.requires.reads in
    let starts = c.requires.arena.large c.args.start (omega (arith, large)) in
    loose_large_by c.args.words.now c.args.starts.now c.args.start c.large_at.result large (omega arith) (omega (arith, starts, (layout_rules (version_in c.args.words.now)).first)) (omega arith) c.requires.named
