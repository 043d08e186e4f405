use Rattle.std.proofs.Common.{◌≡◌, arith}
use Rattle.attach_steps.proofs.Common.{word_at, word_at-put_other, words_of, then_step, bit_word}
use Rattle.attach_steps.proofs.Sequences.{pair_step}
use Rattle.attach_steps.proofs.steps.unmark.Given as given
use Rattle.attach_steps.proofs.steps.unmark.Goals as goal

-- the words behind the store of the root have the same word of the bitmap
kept : (g : given.Over) (c : goal.After-fence g) → word_at (words_of (g.P.Pmem.state c.flush.new.self)) (bit_word c.args.block) ≡ word_at (words_of (g.P.Pmem.state c.args.p.now)) (bit_word c.args.block)
kept g c = grind (arith, word_at-put_other)

pub returns-clause-step : goal.returns-clause-step
returns-clause-step g c =
    pair_step _ _ _ _ (grind (arith, kept)) (then_step (then_step (then_step c.store.ensures c.flush.ensures) c.put_block_bit.ensures.appends) c.fence.ensures) c.requires.quiet

pub returns-clause-over : goal.returns-clause-over
returns-clause-over g c = grind (arith, kept)
