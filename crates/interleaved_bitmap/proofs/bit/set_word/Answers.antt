use Rattle.interleaved_bitmap.proofs.Words.{with_bit_set, with_bit_clear}
use Rattle.interleaved_bitmap.proofs.Headers.{puts_bit}
use Rattle.interleaved_bitmap.proofs.bit.set_word.Goals as goal

pub returns-then-on-clause-word : goal.returns-then-on-clause-word
returns-then-on-clause-word c = with_bit_set c.args.old c.args.bit c.args.on c.requires c.if-on.true

pub returns-then-on-clause-header : goal.returns-then-on-clause-header
returns-then-on-clause-header c = puts_bit c.args.old c.args.bit c.args.on _ (with_bit_set c.args.old c.args.bit c.args.on c.requires c.if-on.true)

pub returns-else-on-clause-word : goal.returns-else-on-clause-word
returns-else-on-clause-word c = with_bit_clear c.args.old c.args.bit c.args.on c.requires c.if-on.false

pub returns-else-on-clause-header : goal.returns-else-on-clause-header
returns-else-on-clause-header c = puts_bit c.args.old c.args.bit c.args.on _ (with_bit_clear c.args.old c.args.bit c.args.on c.requires c.if-on.false)
