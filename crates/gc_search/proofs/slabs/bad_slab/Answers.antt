use Rattle.std.proofs.Common.{arith}
use borrow.Author.Count.{below_more}
use Rattle.gc_search.specs.Known.{IsNormalIfSlab}
use Rattle.gc_search.proofs.Premises.{slab_high}
use Rattle.gc_search.proofs.StateWords.{first_bad}
use Rattle.gc_search.proofs.slabs.bad_slab.Goals as goal

pub loop-start-preserved : goal.loop-start-preserved
loop-start-preserved c = below_more (IsNormalIfSlab c.args.words.now) c.loop-start.start c.loop-start.invariant (c.is_bad_slab.ensures.normal c.if-is_bad_slab.false)

pub returns-then-is_bad_slab : goal.returns-then-is_bad_slab
returns-then-is_bad_slab c = first_bad c.args.words.now c.loop-start.start (c.is_bad_slab.ensures.bad c.if-is_bad_slab.true) c.loop-start.invariant

pub returns : goal.returns
returns c = λ start slab. (c.loop-start.invariant start (omega (arith, slab_high c.requires start slab, c.requires.granules, c.granules-start-end.ensures.granules))).normal slab
