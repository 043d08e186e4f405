use Rattle.std.proofs.Common.{Vec, Global, ◌≡◌, ◌+◌, ap, sym, subst, ◌∙◌, arith}
use Rattle.defect_search.proofs.Common.{is_slab, Slab}
use Rattle.defect_search.proofs.SlabLists.{AreSlabsBelow, no_slabs, slabs_skip, slabs_push, slabs_all}
use Rattle.defect_search.proofs.header.slabs_of.Goals as goal
use Rattle.defect_search.proofs.header.slabs_of.Goals.{then-is_slab+in_ok-push, else-is_slab}

pub loop-start-preserved : goal.loop-start-preserved
loop-start-preserved c =
    let words = c.args.words.now in
    let n = c.loop-start.start in
    let is : c.is_slab.result ≡ is_slab words n = c.is_slab.ensures words c.requires.reads in
    elim c.if-is_slab.branch [
      | then-is_slab+in_ok-push w ↦ subst (AreSlabsBelow words (n + 1)) (sym (ap (λ (v : Vec Slab Global). v.items) w.slabs-is ∙ w.in_ok-push.ensures.items))
          (slabs_push words n c.loop-start.slabs.items w.read_slab.result w.read_slab.ensures.start w.read_slab.ensures.read c.loop-start.invariant)
      | else-is_slab w ↦ subst (AreSlabsBelow words (n + 1)) (sym (ap (λ (v : Vec Slab Global). v.items) w.slabs-is)) (slabs_skip words n c.loop-start.slabs.items (sym is ∙ w.if-is_slab.false) c.loop-start.invariant)
    ]

pub loop-start-init : goal.loop-start-init
loop-start-init c = subst (AreSlabsBelow c.args.words.now 0) (sym c.new-slabs.ensures.items) (no_slabs c.args.words.now)

pub returns : goal.returns
returns c = slabs_all c.args.words.now c.loop-start.start c.loop-start.slabs.items (λ start slab. omega (arith, c.requires.inside.below start slab)) c.loop-start.invariant
