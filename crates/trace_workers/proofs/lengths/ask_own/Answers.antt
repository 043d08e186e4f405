use Rattle.trace_workers.proofs.PublishedLengths.{of_at, of_set, all_asked_set, counted_set}
use Rattle.trace_workers.proofs.lengths.ask_own.Goals as goal

pub ask-requires-clause-pass : goal.ask-requires-clause-pass
ask-requires-clause-pass g c = of_at c.args.pool.now c.args.passes.now c.asking-number.result c.index-passes-number.result c.asking-number.ensures.inside c.requires.of

pub returns-clause-of : goal.returns-clause-of
returns-clause-of g c = of_set c.args.pool.now c.args.passes.now c.asking-number.result c.ask.new.pass c.requires.of c.ask.ensures.pass

pub returns-clause-asked : goal.returns-clause-asked
returns-clause-asked g c = all_asked_set c.args.passes.now c.asking-number.result c.ask.new.pass c.index-passes-number.result c.asking-number.ensures.inside c.ask.ensures.asked

pub returns-clause-counted : goal.returns-clause-counted
returns-clause-counted g c =
    counted_set c.args.passes.now c.asking-number.result c.args.arena c.ask.result c.ask.new.pass c.requires.order c.asking-number.ensures.inside c.asking-number.ensures.own c.ask.ensures.known c.ask.ensures.own
