use Rattle.std.proofs.Common.{arith}
use Rattle.defect_search.specs.Claims.{claim_in}
use Rattle.heap_map.proofs.RootBlocks.{block_of_claim, held_is_claimed}
use Rattle.heap_map.proofs.block.held_among.Goals as goal

pub returns-then-claim-root : goal.returns-then-claim-root
returns-then-claim-root c =
    block_of_claim c.args.words.now c.requires.sound c.args.root (claim_in c.args.claims.now c.loop-i.i) c.requires.some c.if-claim-root.true (c.requires.claims.each c.loop-i.i c.loop-i-test.true)

pub returns : goal.returns
returns c = absurd (held_is_claimed c.args.words.now c.requires.sound c.args.claims.now c.args.root c.requires.claims c.requires.some (λ i below. c.loop-i.invariant i (omega (arith, below, c.loop-i-test.false))))
