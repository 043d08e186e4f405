use Rattle.std.proofs.Common.{arith}
use Rattle.image_tables.specs.Tables.{tables_of}
use Rattle.defect_search.proofs.Marks.{root_below}
use Rattle.defect_search.proofs.Settled.{first_stray, settled_more}
use Rattle.defect_search.proofs.root.stray_root.Goals as goal

pub returns : goal.returns
returns c = λ root some.
    let below = root_below c.args.words.now root some in
    (c.loop-root.invariant root (omega (arith, below, c.roots_of-root-end.ensures.count))).stands some

pub returns-then-is_stray_root : goal.returns-then-is_stray_root
returns-then-is_stray_root c = first_stray (tables_of c.args.words.now) c.loop-root.root (c.is_stray_root.ensures.stray c.if-is_stray_root.true) c.loop-root.invariant

pub loop-root-preserved : goal.loop-root-preserved
loop-root-preserved c = settled_more (tables_of c.args.words.now) c.loop-root.root c.loop-root.invariant (c.is_stray_root.ensures.settled c.if-is_stray_root.false)
