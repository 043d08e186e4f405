use Rattle.std.proofs.Common.{arith}
use Rattle.slab_index.proofs.Firsts.{one_more, all_of_slab, as_many}
use Rattle.slab_index.proofs.index.SlabIndex.take_some.Goals as goal

pub returns-in_default : goal.returns-in_default
returns-in_default c = rw c.in_default.ensures.same (all_of_slab c.loop.invariant.taken c.in_default.ensures.none)

pub loop-preserved : goal.loop-preserved
loop-preserved c = record {
  taken = rw c.push.ensures.items (one_more c.loop.invariant.taken (omega (arith, c.loop.invariant.count, c.loop-test.true)) c.in-Some.ensures);
  count = omega (arith, c.push.ensures.len, c.loop.invariant.count);
}

pub returns : goal.returns
returns c = as_many c.loop.invariant.taken (omega (arith, c.loop.invariant.count, c.loop-test.false))
