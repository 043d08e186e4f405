use Rattle.std.proofs.Common.{arith}
use Rattle.defect_search.proofs.SlabWords.{slabs_more, first_slab, all_slabs}
use Rattle.defect_search.proofs.header.bad_slab.Goals as goal

pub loop-start-preserved : goal.loop-start-preserved
loop-start-preserved c = slabs_more c.args.words.now c.loop-start.start c.loop-start.invariant c.in_default.ensures

pub returns-in-Some : goal.returns-in-Some
returns-in-Some c = first_slab c.args.words.now (record { start = c.loop-start.start; value = c.in-Some.value }) c.loop-start.invariant c.in-Some.ensures

pub returns : goal.returns
returns c = all_slabs c.args.words.now c.loop-start.start c.requires.slabs (λ start slab. omega (arith, c.requires.slabs.below start slab)) c.loop-start.invariant
