use Rattle.std.proofs.Common.{List, arith}
use Rattle.trace_workers.proofs.Common.{length-map, Entry, ArenaState, each_of}
use Rattle.trace_text.specs.Grammar.{pool_of}
use Rattle.trace_workers.specs.Summaries.{telling_of}
use Rattle.trace_runs.specs.Answers.{by_threads}
use Rattle.trace_runs.proofs.Tellings.{by_threads-length, answers_length, IsTold-closed, IfOk-both}
use Rattle.trace_workers.proofs.replaying.replay.Goals as goal

pub tell_all-requires-clause-few : goal.tell_all-requires-clause-few
tell_all-requires-clause-few g c =
    let closed = each_of c.in_ok-lengths.field-0.closed.items (λ e. (e.journal.items, e.arena)) in
    let same = answers_length by_threads c.args.trace.calls.items 0 c.args.arenas.items closed c.in_ok-lengths.ensures.answers in
    let many = length-map {B = List Entry × ArenaState} c.in_ok-lengths.field-0.closed.items (λ e. (e.journal.items, e.arena)) in
    omega (arith, same, many, c.requires.work.all, c.requires.work.sized.few)

pub tell_all-requires-clause-lengths : goal.tell_all-requires-clause-lengths
tell_all-requires-clause-lengths g c summed = c.in_ok-lengths.ensures.lengths (c.requires.own summed)

pub returns : goal.returns
returns g c =
    let calls = c.args.trace.calls.items in
    let closed = each_of c.in_ok-lengths.field-0.closed.items (λ e. (e.journal.items, e.arena)) in
    IfOk-both c.tell_all.result _ _ _
    (λ done is left. IsTold-closed by_threads by_threads-length (telling_of c.args.account) (pool_of c.args.trace) calls c.args.arenas.items closed done.text.items (each_of done.devices.items (λ d. g.P.Pmem.state d))
    c.requires.work.few c.requires.work.all c.requires.new c.in_ok-lengths.ensures.answers is left)
    c.tell_all.ensures.text c.tell_all.ensures.devices
