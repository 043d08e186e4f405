use Rattle.trace_workers.proofs.Calls.{has_part}
use Rattle.trace_workers.proofs.PublishedLengths.{asked_of, known_told, mine_few}
use Rattle.trace_workers.proofs.lengths.ask.Goals as goal

pub returns-clause-asked : goal.returns-clause-asked
returns-clause-asked g c =
    let room = has_part c.args.pool.now c.args.pass.now c.args.arena c.requires.pass c.requires.arena in
    asked_of c.args.pass.now c.published.new.pass c.args.arena c.published.result room c.published.ensures.read c.published.ensures.known

pub returns-clause-known : goal.returns-clause-known
returns-clause-known g c =
    let room = has_part c.args.pool.now c.args.pass.now c.args.arena c.requires.pass c.requires.arena in
    known_told c.args.pass.now c.published.new.pass c.args.arena c.published.result room c.published.ensures.read

pub returns-clause-own : goal.returns-clause-own
returns-clause-own g c =
    let room = has_part c.args.pool.now c.args.pass.now c.args.arena c.requires.pass c.requires.arena in
    mine_few c.args.pass.now c.published.new.pass c.args.arena c.published.result (asked_of c.args.pass.now c.published.new.pass c.args.arena c.published.result room c.published.ensures.read c.published.ensures.known)
    c.published.ensures.own c.published.ensures.seen
