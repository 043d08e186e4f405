use Rattle.std.proofs.Common.{◌≡◌, ◌+◌, ◌<◌, ◌/◌, ◌^◌, ◌∙◌, arith, rules, ap, get_or, subst, sym}
use Rattle.pmem_lines.specs.Words.{word_at, put_word}
use Rattle.image_raise.proofs.Common.{Layout, root_word}
use Rattle.image_raise.specs.Rise.{rise, raised_at}
use Rattle.image_raise.specs.Front.{HasRaisedRoots}
use Rattle.image_raise.proofs.Rows.{more_roots, root_high}
use Rattle.image_raise.proofs.Steps.{roots_more}
use Rattle.image_raise.proofs.raising.raise_roots.Goals as goal

pub raised_root-requires : goal.raised_root-requires
unfolding word_at
raised_root-requires c = subst (λ k. get_or c.args.words.now k 0 < 2 ^ 32) (omega (arith, c.root_at.ensures)) (c.requires.small.each c.loop-root.root (search rules))

pub bounds-front-word : goal.bounds-front-word
bounds-front-word c = omega (arith, c.root_at.ensures, c.loop-root.invariant.size, c.requires.front, root_high 2 c.loop-root.root (omega (arith, c.loop-root-test.true, more_roots, ap (λ (row : Layout). row.roots) c.layout_of-root-end.ensures.row)))

pub loop-root-preserved : goal.loop-root-preserved
unfolding put_word word_at
loop-root-preserved c =
    let root = c.loop-root.root in
    let here : c.root_at.result / 8 ≡ root_word root = omega (arith, c.root_at.ensures) in
    subst (λ k. HasRaisedRoots c.args.words.now (root + 1) c.args.front.now (put_word c.loop-root.front k c.raised_root.result)) (sym here)
    (roots_more c.args.words.now c.args.front.now c.loop-root.front root c.raised_root.result c.loop-root.invariant (omega (arith, here, bounds-front-word c))
    (c.raised_root.ensures ∙ ap (λ k. raised_at rise (get_or c.args.words.now k 0)) here))
