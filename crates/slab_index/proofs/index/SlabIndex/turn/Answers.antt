use Rattle.std.proofs.Common.{◌≡◌, ◌+◌, ◌*◌, ◌/◌, refl, sym, ◌∙◌, arith}
use Rattle.slab_index.proofs.Steps.{has_place, below_put, IsIndex-turned}
use Rattle.slab_index.proofs.Views.{class_of_list, granules_of, word_of, capacity_of_block, block_after}
use Rattle.slab_index.proofs.index.SlabIndex.turn.Goals as goal

pub put-requires : goal.put-requires
put-requires c =
    let s = c.self.inside in
    omega (arith, capacity_of_block c.self.view_is c.args.start c.args.number c.requires, c.self.invariant.few c.args.start, c.in-Some.ensures.inside, granules_of s.granules s.classes.items s.blocks.words.items c.self.view_is, c.self.invariant.blocks_size)

pub summarize-requires : goal.summarize-requires
summarize-requires c =
    let place : c.args.start ≡ (64 * c.args.start + c.args.number / 64) / 64 = omega (arith, capacity_of_block c.self.view_is c.args.start c.args.number c.requires, c.self.invariant.few c.args.start) in
    rw c.put.ensures.some (has_place c.self.invariant c.put.ensures.words.size (word_of c.self.view_is c.self.invariant c.in-Some.ensures.class place))

pub invariant_of-self : goal.invariant_of-self
invariant_of-self c =
    let index = c.self.invariant in
    let start = c.args.start in
    let number = c.args.number in
    let below = capacity_of_block c.self.view_is start number c.requires in
    let put = c.put.ensures.words in
    rw c.summarize.ensures.words
    (IsIndex-turned c.put.new.self.words.items c.summarize.new.blocks.some.items c.summarize.new.starts.words.items c.summarize.new.starts.some.items (64 * start + number / 64) c.in-Some.class index
    (word_of c.self.view_is index c.in-Some.ensures.class (omega (arith, below, index.few start)))
    put.size
    (λ j apart. put.others j (λ e. apart (omega (arith, e, below, index.few start))))
    (put.fits index.fits)
    (below_put c.self.inside.classes.items start number below (omega (arith, below, index.few start)) index.below put)
    (rw c.put.ensures.some at c.summarize.ensures.sums))

pub returns-in-Some-clause-classes : goal.returns-in-Some-clause-classes
returns-in-Some-clause-classes c = λ s. class_of_list {granules = c.self.inside.granules} {classes = c.self.inside.classes.items} {blocks = c.summarize.new.blocks.words.items} refl s ∙ sym (class_of_list c.self.view_is s)

pub returns-in-Some-clause-blocks : goal.returns-in-Some-clause-blocks
returns-in-Some-clause-blocks c =
    rw c.summarize.ensures.words (block_after c.self.inside.granules c.self.inside.classes.items c.args.start c.args.number c.self.view_is (omega (arith, capacity_of_block c.self.view_is c.args.start c.args.number c.requires, c.self.invariant.few c.args.start)) c.put.ensures.words)
