use Rattle.std.proofs.Common.{ℕ, ◌+◌, ◌<◌, true≢false, sym, ◌∙◌, subst, arith}
use Rattle.image_defects.specs.Least.{IsLeast}
use Rattle.attach_dict.proofs.HeadOrder.{IsAlikeBelow, alike_by, alike_not, alike_same, alike_more, least_twice}
use Rattle.attach_dict.proofs.heads.first_twice.Goals.{then-is_alike, else-is_alike}
use Rattle.attach_dict.proofs.heads.first_twice.Goals as goal

pub loop-i-preserved : goal.loop-i-preserved
loop-i-preserved c =
    let heads = c.args.heads.now in
    let i = c.loop-i.i in
    let some : 0 < i = omega (arith, c.loop-i.auto.i) in
    elim c.if-is_alike.branch [
      | then-is_alike w ↦
          rw w.first-is
          (subst (λ (n : ℕ). IsLeast (IsAlikeBelow heads (i + 1)) n) (sym w.lower_of.ensures)
          (alike_more heads i _ c.loop-i.first some (alike_by heads i some c.loop-i-test.true (c.is_alike.ensures.0 w.if-is_alike.true)) c.loop-i.invariant))
      | else-is_alike w ↦
          rw w.first-is
          (alike_same heads i c.loop-i.first (alike_not heads i some c.loop-i-test.true (λ same. true≢false (sym (c.is_alike.ensures.1 same) ∙ w.if-is_alike.false))) c.loop-i.invariant)
    ]

pub returns : goal.returns
returns c = least_twice c.args.heads.now c.requires c.loop-i.i c.loop-i.first c.loop-i-test.false c.loop-i.invariant
