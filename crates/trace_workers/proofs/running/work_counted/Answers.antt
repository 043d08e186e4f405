use Rattle.std.proofs.Common.{◌∙◌}
use Rattle.trace_workers.proofs.PublishedLengths.{numbers_asked, done_asked, order_numbers, some_numbers, IfOk-always}
use Rattle.trace_workers.proofs.running.work_counted.Goals as goal

pub lengths_of-requires-clause-order : goal.lengths_of-requires-clause-order
lengths_of-requires-clause-order g c = order_numbers 0 c.args.passes.now c.work_all.new.passes c.work_all.ensures.numbers c.requires.order

pub lengths_of-requires-clause-some : goal.lengths_of-requires-clause-some
lengths_of-requires-clause-some g c = some_numbers c.args.passes.now c.work_all.new.passes c.work_all.ensures.numbers c.requires.some

pub returns-in-Ok-clause-numbers : goal.returns-in-Ok-clause-numbers
returns-in-Ok-clause-numbers g c = numbers_asked c.work_all.new.passes c.lengths_of.new.passes c.lengths_of.ensures.asked ∙ c.work_all.ensures.numbers

pub returns-in-Ok-clause-done : goal.returns-in-Ok-clause-done
returns-in-Ok-clause-done g c =
    IfOk-always c.lengths_of.result _ (done_asked c.args.calls.now c.work_all.new.passes c.lengths_of.new.passes c.lengths_of.ensures.asked c.in-Ok.ensures.done)
