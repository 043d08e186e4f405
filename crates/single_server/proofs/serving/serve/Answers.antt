use Rattle.std.proofs.Common.{arith, sym, ◌∙◌}
use denote.Param.Send.{sendable}
use Rattle.std.proofs.alloc.Global.TheSendSync as heap
use Rattle.heap_model.proofs.call.Call.TheSendSync as call
use Rattle.arena_server.proofs.sender.Sender.TheSendSync as sender
use Rattle.arena_server.proofs.Crossing.{server_sync}
use Rattle.single_server.proofs.OneArena.{at_end}
use Rattle.single_server.proofs.serving.serve.Goals as goal

pub join-sender-requires-send-F : goal.join-sender-requires-send-F
join-sender-requires-send-F g c κs within = search (sendable, server_sync, sender.the_send, call.the_sync, heap.the_sync, heap.the_send) depth 20

pub join-sender-requires-after_bounds : goal.join-sender-requires-after_bounds
join-sender-requires-after_bounds g c κs within =
    let e = c.in_ok-single.ensures in
    let turns = e.owner.3 in
    let many = e.server.1 in (
      (search sendable, e.sender.0, omega (arith, many), e.sender.1),
      (search sendable, e.owner.0, e.owner.1, omega (arith, turns, c.requires.few)),
    )

pub returns : goal.returns
returns g c =
    let e = at_end c.close_one.result (λ d. record { journal = d.journal.items; left = d.left.items; arena = d.arena }) c.join-sender.result.0 c.join-sender.result.1 c.args.calls.now c.close_one.ensures c.join-sender.ensures.first.2 c.join-sender.ensures.second.2
    (sym c.has_skipped.ensures ∙ c.if-has_skipped.false) in
    record { journal = e.0; left = e.1 }
