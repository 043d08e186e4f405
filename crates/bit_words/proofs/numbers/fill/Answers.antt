use Rattle.std.proofs.Common.{◌≡◌, ◌-◌, ◌*◌, get_or, set, ◌∙◌, ap, arith, ◌+◌}
use Rattle.bit_words.specs.Numbers.{ones}
use Rattle.bit_words.proofs.Fills.{fill_none, fill_more, fill_all}
use Rattle.bit_words.proofs.numbers.fill.Goals as goal

pub loop-i-init : goal.loop-i-init
loop-i-init c = fill_none c.args.words.now c.args.place c.args.n

pub loop-i-preserved : goal.loop-i-preserved
loop-i-preserved c = λ j.
    let words = c.loop-i.words in
    let at = 64 * c.args.place + c.loop-i.i in
    let value : c.ones.result ≡ ones (c.args.n - 64 * c.loop-i.i) = c.ones.ensures ∙ ap ones c.saturating_sub.ensures in
    ap (λ v. get_or (set words at v) j 0) value ∙ fill_more c.args.words.now words c.args.place c.args.n c.loop-i.i c.loop-i-test.true (omega arith) c.loop-i.invariant j

pub returns : goal.returns
returns c = fill_all c.args.words.now c.loop-i.words c.args.place c.args.n c.loop-i.i c.loop-i-test.false c.loop-i.auto.words c.loop-i.invariant
