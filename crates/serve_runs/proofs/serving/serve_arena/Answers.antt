use Rattle.std.proofs.Common.{arith}
use Rattle.trace_runs.proofs.Answers.{calls_of-few}
use Rattle.serve_runs.proofs.serving.serve_arena.Goals as goal

pub serve_or_skip-requires-clause-turn : goal.serve_or_skip-requires-clause-turn
serve_or_skip-requires-clause-turn g c =
    let few = calls_of-few c.number.result c.args.calls.now in
    let many = c.calls_for-count.ensures in
    omega (arith, few, many, c.loop.invariant.turns, c.loop-test.true, c.requires.few)
