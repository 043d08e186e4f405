use Rattle.std.proofs.Common.{◌/◌, ◌%◌, ◌&&◌, eqb, false, cond, get_or, ap, ◌∙◌}
use Rattle.std.specs.Int.{bit_at}
use Rattle.slab_index.proofs.Taken.{taken_more, taken_all}
use Rattle.slab_index.proofs.index.SlabIndex.take_all.Goals as goal

pub loop-at-preserved : goal.loop-at-preserved
loop-at-preserved c =
    let were = c.loop-at.invariant in
    let numbers = c.args.numbers.now in
    let at = c.loop-at.at in
    record {
      granules = c.take_word.ensures.granules ∙ were.granules;
      classes = λ s. c.take_word.ensures.classes s ∙ were.classes s;
      taken = λ s i.
          c.take_word.ensures.blocks s i
          ∙ ap (cond (eqb s c.args.start && (eqb (i / 64) at && eqb (bit_at (get_or numbers at 0) (i % 64)) 1)) false) (were.taken s i)
          ∙ taken_more numbers s c.args.start at i _;
    }

pub returns-clause-blocks : goal.returns-clause-blocks
returns-clause-blocks c = λ s i. c.loop-at.invariant.taken s i ∙ taken_all c.args.numbers.now s c.args.start c.loop-at.at i _ c.requires.size c.loop-at-test.false
