use Rattle.std.proofs.Common.{◌*◌}
use Rattle.settle_steps.proofs.Common.{words_of, then_step, step_of, IsQuiet-word, word_crash, bit_word, bit_put}
use Rattle.settle_steps.proofs.class_block.mark_as.Goals as goal

pub returns-clause-step : goal.returns-clause-step
returns-clause-step g c =
    let state = g.P.Pmem.state in
    let words = words_of (state c.args.p.now) in
    step_of (then_step c.put_block_bit.ensures.appends c.fence.ensures) (IsQuiet-word (8 * bit_word c.args.block) (bit_put words c.args.block c.args.on)) c.requires.quiet
    (word_crash words (8 * bit_word c.args.block) (bit_put words c.args.block c.args.on))
