use Rattle.std.proofs.Common.{refl, false, ◌^◌, ◌||◌, ◌<◌, ap, sym, ◌∙◌, w64, arith}
use Rattle.std.specs.Int.{trailing_zeros}
use Rattle.std.proofs.lemmas.Bool.{eq-eqb}
use Rattle.std.proofs.lemmas.Nat.Bits.{bit_at-trailing_zeros}
use Rattle.bit_words.specs.Numbers.{has}
use Rattle.interleaved_bitmap.specs.Bits.{is_set}
use Rattle.interleaved_bitmap.proofs.Words.{with_bit_clear}
use Rattle.interleaved_bitmap.proofs.Sets.{less_without, put_marked, marked_none, or_none}
use Rattle.interleaved_bitmap.proofs.set.put_blocks.Goals as goal

pub loop-rest-smaller : goal.loop-rest-smaller
loop-rest-smaller c =
    let rest = c.loop-rest.rest in
    let fits : rest < 2 ^ 64 = omega (arith, c.loop-rest.auto.rest-fits) in
    let lowest = bit_at-trailing_zeros w64 rest (omega (arith, c.loop-rest-test.true)) fits in
    less_without rest (trailing_zeros w64 rest) lowest.0 lowest.1

pub loop-rest-preserved : goal.loop-rest-preserved
unfolding is_set
loop-rest-preserved c =
    let rest = c.loop-rest.rest in
    let bit = trailing_zeros w64 rest in
    let fits : rest < 2 ^ 64 = omega (arith, c.loop-rest.auto.rest-fits) in
    let lowest = bit_at-trailing_zeros w64 rest (omega (arith, c.loop-rest-test.true)) fits in
    record {
      size = c.put.ensures.size ∙ c.loop-rest.invariant.size;
      both = λ i below.
          put_marked c.put.ensures c.block_of.ensures.block c.block_of.ensures.place c.block_of.ensures.bit (eq-eqb _ 1 lowest.1) (with_bit_clear rest bit false lowest.0 refl) i below
          ∙ c.loop-rest.invariant.both i below;
    }

pub returns-clause-marked : goal.returns-clause-marked
returns-clause-marked c = λ i below.
    let none = ap (λ word. has c.loop-rest.set i || word) (marked_none c.args.place i) in
    sym (none ∙ or_none (has c.loop-rest.set i)) ∙ rw c.loop-rest-test.false at (c.loop-rest.invariant.both i below)
