use Rattle.std.proofs.Common.{arith}
use borrow.Author.Count.{below_more}
use Rattle.gc_check.specs.Heap.{gc_tables}
use Rattle.gc_search.specs.Known.{IsGcSettled}
use Rattle.gc_search.proofs.Standing.{first_stray, all_standing}
use Rattle.gc_search.proofs.roots.stray_root.Goals as goal

pub returns-then-is_stray_root : goal.returns-then-is_stray_root
returns-then-is_stray_root c = first_stray (gc_tables c.args.words.now) c.loop-root.root (c.is_stray_root.ensures.stray c.if-is_stray_root.true) c.loop-root.invariant

pub loop-root-preserved : goal.loop-root-preserved
loop-root-preserved c = below_more (IsGcSettled (gc_tables c.args.words.now)) c.loop-root.root c.loop-root.invariant (c.is_stray_root.ensures.settled c.if-is_stray_root.false)

pub returns : goal.returns
returns c = all_standing c.args.words.now c.loop-root.root (omega (arith, c.roots_of-root-end.ensures.count)) c.loop-root.invariant
