use Rattle.std.proofs.Common.{◌≡◌, ℕ, ◌*◌, None, Option, replicate, arith}
use Rattle.std.proofs.lemmas.Grind.{common_steps}
use Rattle.slab_index.proofs.Fresh.{IsIndex-fresh, fresh_classes, fresh_blocks}
use Rattle.slab_index.proofs.index.SlabIndex.new.Goals as goal

pub invariant_of-result : goal.invariant_of-result
invariant_of-result c =
    let classes : c.in_ok-classes.classes.items ≡ replicate {A = Option ℕ} c.args.granules None = c.in_ok-classes.ensures.items_if_clones_equal (λ y h. grind (arith, common_steps)) in
    rw (classes, c.in_ok-blocks.ensures.words, c.in_ok-blocks.ensures.some, c.in_ok-starts.ensures.words, c.in_ok-starts.ensures.some) (IsIndex-fresh c.args.granules c.requires.least c.requires.most)

pub returns-clause-classes : goal.returns-clause-classes
returns-clause-classes c =
    let classes : c.in_ok-classes.classes.items ≡ replicate {A = Option ℕ} c.args.granules None = c.in_ok-classes.ensures.items_if_clones_equal (λ y h. grind (arith, common_steps)) in
    λ s. rw classes (fresh_classes c.args.granules c.in_ok-blocks.blocks.words.items s)

pub returns-clause-blocks : goal.returns-clause-blocks
returns-clause-blocks c =
    λ s i. rw c.in_ok-blocks.ensures.words (fresh_blocks c.args.granules (64 * c.args.granules) c.in_ok-classes.classes.items s i)
