use Rattle.std.proofs.Common.{subst}
use Rattle.trace_text.specs.Grammar.{pool_of}
use Rattle.trace_crashes.proofs.Common.{header_for, calls_of}
use Rattle.trace_crashes.specs.declared.seeking.Sought.{Sought}
use Rattle.trace_crashes.specs.Crash.{left_of}
use Rattle.trace_crashes.specs.Seek.{IsSought}
use Rattle.trace_crashes.specs.Steps.{runs_from}
use Rattle.trace_crashes.proofs.Crashes.{IsCrash-within, IsCrash-idle}
use Rattle.trace_crashes.proofs.crashing.crash_of.Goals as goal

pub returns-in-UnderWay-clause-crashed : goal.returns-in-UnderWay-clause-crashed
returns-in-UnderWay-clause-crashed g c =
    let trace = c.args.trace.now in
    let header = header_for (pool_of trace) c.args.arena in
    let calls = calls_of c.args.arena trace.calls.items in
    let device = c.in_ok-device.field-0.device in
    let a = g.A.SimArena in
    IsCrash-within a.variant (runs_from _ a.step (a.is_new header)) (a.formatted header) calls c.args.event c.args.seed device c.in-UnderWay.number c.in-UnderWay.done (left_of c.in_ok-left_within-in-UnderWay.field-0)
    (subst (λ (sought : Sought). IsSought a.variant (runs_from _ a.step (a.is_new header)) (a.formatted header) calls c.args.event device sought) c.in-UnderWay.is c.in_ok-device.ensures.sought) c.in_ok-left_within-in-UnderWay.ensures

pub returns-clause-crashed : goal.returns-clause-crashed
returns-clause-crashed g c =
    let trace = c.args.trace.now in
    let header = header_for (pool_of trace) c.args.arena in
    let calls = calls_of c.args.arena trace.calls.items in
    let device = c.in_ok-device.field-0.device in
    let a = g.A.SimArena in
    IsCrash-idle a.variant (runs_from _ a.step (a.is_new header)) (a.formatted header) calls c.args.event c.args.seed c.in-Past.events (left_of c.in_ok-left_idle-in-Past-2.field-0)
    (subst (λ (sought : Sought). IsSought a.variant (runs_from _ a.step (a.is_new header)) (a.formatted header) calls c.args.event device sought) c.in-Past.is c.in_ok-device.ensures.sought) c.if-event-events.false c.in_ok-left_idle-in-Past-2.ensures.idle
