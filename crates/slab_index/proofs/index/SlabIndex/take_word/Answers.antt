use Rattle.std.proofs.Common.{◌+◌, ◌*◌, refl, sym, ◌∙◌, arith}
use Rattle.slab_index.proofs.Steps.{has_place, IsIndex-turned}
use Rattle.slab_index.proofs.Taken.{had_taken, word_after}
use Rattle.slab_index.proofs.Views.{class_of_list, granules_of, word_of}
use Rattle.slab_index.proofs.index.SlabIndex.take_word.Goals as goal

pub take-requires : goal.take-requires
take-requires c =
    let s = c.self.inside in
    omega (arith, c.in-Some.ensures.inside, granules_of s.granules s.classes.items s.blocks.words.items c.self.view_is, c.self.invariant.blocks_size)

pub summarize-requires : goal.summarize-requires
summarize-requires c = rw c.take.ensures.some (has_place c.self.invariant c.take.ensures.words.size (word_of c.self.view_is c.self.invariant c.in-Some.ensures.class (omega arith)))

pub invariant_of-self : goal.invariant_of-self
invariant_of-self c =
    let taken = c.take.ensures.words in
    rw c.summarize.ensures.words
    (IsIndex-turned c.take.new.self.words.items c.summarize.new.blocks.some.items c.summarize.new.starts.words.items c.summarize.new.starts.some.items (64 * c.args.start + c.args.at) c.in-Some.class c.self.invariant
    (word_of c.self.view_is c.self.invariant c.in-Some.ensures.class (omega arith))
    taken.size
    taken.others
    (taken.fits c.self.invariant.fits)
    (λ k is. c.self.invariant.below k (had_taken taken k is))
    (rw c.take.ensures.some at c.summarize.ensures.sums))

pub returns-in-Some-clause-classes : goal.returns-in-Some-clause-classes
returns-in-Some-clause-classes c = λ s. class_of_list {granules = c.self.inside.granules} {classes = c.self.inside.classes.items} {blocks = c.summarize.new.blocks.words.items} refl s ∙ sym (class_of_list c.self.view_is s)

pub returns-in-Some-clause-blocks : goal.returns-in-Some-clause-blocks
returns-in-Some-clause-blocks c = rw c.summarize.ensures.words (word_after c.self.inside.granules c.self.inside.classes.items c.args.start c.args.at c.args.word c.self.view_is c.requires.at c.take.ensures.words)
