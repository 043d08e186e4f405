use Rattle.std.proofs.Common.{refl, ◌∙◌, arith}
use Rattle.arena_core.proofs.CoveredBlocks.{given_first, given_next, given_none, given_all, unused_here}
use Rattle.arena_core.proofs.carrying.free_covered.Goals as goal
use Rattle.arena_core.proofs.carrying.free_covered.Goals.{then-is_unused, else-is_unused}

pub loop-number-init : goal.loop-number-init
loop-number-init g c = record { stacks = refl; given = given_first c.granule_at-slab.ensures c.covered_by-from.ensures c.requires.slabs }

pub make_available-requires-clause-used : goal.make_available-requires-clause-used
make_available-requires-clause-used g c = c.loop-number.invariant.given.rest c.loop-number.number (omega arith) c.loop-number-test.true

pub loop-number-preserved : goal.loop-number-preserved
loop-number-preserved g c =
    let seen = unused_here c.granule_at-slab.ensures c.is_unused.ensures in
    let was = c.loop-number.invariant in
    elim c.if-is_unused.branch [
      | then-is_unused w ↦ rw w.supply-is (record {
        given = given_next c.loop-number-test.true (seen.0 w.if-is_unused.true) w.make_available.ensures.block was.given;
        stacks = w.make_available.ensures.stacks ∙ was.stacks;
      })
      | else-is_unused w ↦ rw w.supply-is (record { given = given_none c.loop-number-test.true (seen.1 w.if-is_unused.false) was.given; stacks = was.stacks })
    ]

pub returns-clause-slabs : goal.returns-clause-slabs
returns-clause-slabs g c = given_all (omega (arith, c.loop-number-test.false)) c.loop-number.invariant.given
