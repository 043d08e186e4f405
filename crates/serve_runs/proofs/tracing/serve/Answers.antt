use Rattle.std.proofs.Common.{List, arith}
use Rattle.serve_runs.proofs.Common.{length-map, Entry, ArenaState, by_owner, each_of}
use Rattle.trace_text.specs.Grammar.{pool_of}
use Rattle.trace_text.specs.Report.{arena_text}
use Rattle.trace_runs.proofs.Tellings.{by_owner-length, answers_length, IsTold-closed, IfOk-both}
use Rattle.serve_runs.proofs.tracing.serve.Goals as goal

pub tell_all-requires : goal.tell_all-requires
tell_all-requires g c =
    let closed = each_of {B = List Entry × ArenaState} c.in_ok-closed.closed.items (λ e. (e.journal.items, e.arena)) in
    let same = answers_length by_owner c.args.trace.calls.items 0 c.args.arenas.items closed c.in_ok-closed.ensures in
    let many = length-map {B = List Entry × ArenaState} c.in_ok-closed.closed.items (λ e. (e.journal.items, e.arena)) in
    omega (arith, same, many, c.requires.work.all, c.requires.work.sized.few)

pub returns : goal.returns
returns g c =
    let calls = c.args.trace.calls.items in
    let closed = each_of {B = List Entry × ArenaState} c.in_ok-closed.closed.items (λ e. (e.journal.items, e.arena)) in
    IfOk-both c.tell_all.result _ _ _
    (λ done is left. IsTold-closed by_owner by_owner-length arena_text (pool_of c.args.trace) calls c.args.arenas.items closed done.text.items (each_of done.devices.items (λ d. g.P.Pmem.state d))
    c.requires.work.few c.requires.work.all c.requires.new c.in_ok-closed.ensures is left)
    c.tell_all.ensures.text c.tell_all.ensures.devices
