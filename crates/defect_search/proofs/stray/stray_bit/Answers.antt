use Rattle.std.proofs.Common.{◌≡◌, length, subst, arith}
use Rattle.defect_search.proofs.Common.{tables_of, IsLeastOf}
use Rattle.defect_search.proofs.Strays.{IsStrayAmong, among_more, among_all}
use Rattle.defect_search.proofs.stray.stray_bit.Goals as goal

pub loop-i-preserved : goal.loop-i-preserved
loop-i-preserved c = among_more (tables_of c.args.words.now) c.args.slabs.now c.loop-i.i c.loop-i.least c.stray_in_slab-here.result c.loop-i.invariant c.stray_in_slab-here.ensures c.lesser-least.ensures

pub returns : goal.returns
returns c =
    let t = tables_of c.args.words.now in
    let slabs = c.args.slabs.now in
    let all : c.loop-i.i ≡ length slabs = omega arith in
    among_all c.args.words.now slabs c.args.sorted.now c.loop-i.least c.requires.slabs c.requires.blocks (subst (λ n. IsLeastOf (IsStrayAmong t slabs n) c.loop-i.least) all c.loop-i.invariant)
