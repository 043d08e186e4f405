use Rattle.std.proofs.Common.{subst, sym}
use Rattle.trace_runs.specs.Threads.{AllBy}
use Rattle.trace_runs.proofs.ThreadNumbers.{AllIn-trace, AllBy-trace}
use Rattle.trace_workers.proofs.replaying.make_calls.Goals as goal

pub threads_of-seats-requires : goal.threads_of-seats-requires
threads_of-seats-requires g c =
    subst (AllBy 64) (sym c.deref.ensures.value) (AllBy-trace c.args.trace.now.arenas c.args.trace.now.calls.items c.requires.each)

pub run_trace-requires-clause-arenas : goal.run_trace-requires-clause-arenas
run_trace-requires-clause-arenas g c κs within =
    rw (c.deref-2.ensures.value, c.requires.all) (AllIn-trace c.args.trace.now.arenas c.args.trace.now.calls.items c.requires.each)

pub returns-clause-answers : goal.returns-clause-answers
returns-clause-answers g c = rw c.deref-2.ensures.value at c.run_trace.ensures.answers

pub returns-clause-lengths : goal.returns-clause-lengths
returns-clause-lengths g c = rw c.deref-2.ensures.value at c.run_trace.ensures.lengths
