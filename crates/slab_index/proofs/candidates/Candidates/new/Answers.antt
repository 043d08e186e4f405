use Rattle.std.proofs.Common.{◌≡◌, None, Option, replicate, arith}
use Rattle.std.proofs.lemmas.Grind.{common_steps}
use Rattle.slab_index.specs.declared.candidates.NormalSlab.{NormalSlab}
use Rattle.slab_index.proofs.Marks.{AreKept-fresh, normal_fresh}
use Rattle.slab_index.proofs.candidates.Candidates.new.Goals as goal

pub invariant_of-result : goal.invariant_of-result
invariant_of-result c =
    let normal : c.in_ok-normal.normal.items ≡ replicate {A = Option NormalSlab} c.args.granules None = c.in_ok-normal.ensures.items_if_clones_equal (λ y h. grind (arith, common_steps)) in
    let classes = c.in_ok-classes.ensures.items_if_clones_equal (λ y h. h) in
    rw (normal, c.in_ok-starts.ensures.words, c.in_ok-starts.ensures.some, classes) (AreKept-fresh c.args.granules c.requires)

pub returns-clause-none : goal.returns-clause-none
returns-clause-none c =
    let normal : c.in_ok-normal.normal.items ≡ replicate {A = Option NormalSlab} c.args.granules None = c.in_ok-normal.ensures.items_if_clones_equal (λ y h. grind (arith, common_steps)) in
    λ s. rw normal (normal_fresh c.args.granules s)
