use Rattle.std.proofs.Common.{◌<◌, ◌≤◌, arith, ⊎_elim}
use Rattle.std.proofs.lemmas.Bool.{false≢true, cases_lt}
use Rattle.defect_search.proofs.Blocks.{unrooted}
use Rattle.defect_search.proofs.claim.has_block.Goals as goal

pub returns-then-claim-at : goal.returns-then-claim-at
returns-then-claim-at c = λ t are.
    let sorted = c.args.sorted.now in (
      λ e. absurd (false≢true e),
      λ rooted. absurd (unrooted t sorted are c.args.at c.args.size (λ k below same. ⊎_elim
          (λ (before : k < c.loop-i.i). c.loop-i.invariant k before same)
          (λ (behind : c.loop-i.i ≤ k). absurd (omega (arith, c.requires.each c.loop-i.i k behind below, same, c.place_of-first.ensures.behind c.loop-i.i (omega arith) (omega arith))))
          (cases_lt k c.loop-i.i)) rooted),
    )

pub returns : goal.returns
returns c = λ t are.
    (λ e. absurd (false≢true e), λ rooted. absurd (unrooted t c.args.sorted.now are c.args.at c.args.size (λ k below same. c.loop-i.invariant k (omega arith) same) rooted))
