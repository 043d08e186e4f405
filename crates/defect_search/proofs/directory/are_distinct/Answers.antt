use Rattle.std.proofs.Common.{◌≡◌, ◌∙◌, length, refl, subst, sym, arith}
use Rattle.std.proofs.lemmas.Bool.{false≢true}
use Rattle.defect_search.proofs.DirectoryBytes.{AreNewBelow, new_more, pairs_of, new_of}
use Rattle.defect_search.proofs.directory.are_distinct.Goals as goal

pub loop-at-preserved : goal.loop-at-preserved
loop-at-preserved c = new_more c.args.chunks.now c.loop-at.at c.loop-at.invariant (c.is_new.ensures.0 c.if-not-is_new.false)

pub returns-then-not-is_new : goal.returns-then-not-is_new
returns-then-not-is_new c = (λ e. absurd (false≢true e), λ pairs. sym c.if-not-is_new.true ∙ c.is_new.ensures.1 (new_of c.args.chunks.now c.loop-at.at (omega arith) pairs))

pub returns : goal.returns
returns c =
    let all : c.loop-at.at ≡ length c.args.chunks.now = omega arith in
    (λ _. pairs_of c.args.chunks.now (subst (AreNewBelow c.args.chunks.now) all c.loop-at.invariant), λ _. refl)
