use Rattle.std.proofs.Common.{refl, ap, ◌∙◌, ◌||◌, get_or}
use Rattle.interleaved_bitmap.specs.Places.{is_marked}
use Rattle.interleaved_bitmap.proofs.Sets.{none_before, one_more, all_before}
use Rattle.interleaved_bitmap.proofs.set.set_blocks.Goals as goal

pub loop-place-init : goal.loop-place-init
loop-place-init c = record { size = c.no_blocks-set.ensures.size; seen = λ i below. c.no_blocks-set.ensures.none i ∙ none_before c.args.header.now i }

pub loop-place-preserved : goal.loop-place-preserved
loop-place-preserved c = record {
  size = c.put_blocks.ensures.size;
  seen = λ i below.
      c.put_blocks.ensures.marked i below
      ∙ ap (λ b. b || is_marked c.loop-place.place (get_or c.args.header.now c.loop-place.place 0) i) (c.loop-place.invariant.seen i below)
      ∙ one_more c.args.header.now c.loop-place.place (get_or c.args.header.now c.loop-place.place 0) i refl;
}

pub returns-clause-blocks : goal.returns-clause-blocks
returns-clause-blocks c = λ i below. c.loop-place.invariant.seen i below ∙ all_before c.args.header.now c.loop-place.place i c.loop-place-test.false below
