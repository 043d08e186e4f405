use denote.Param.Send.{sendable}
use Rattle.std.proofs.alloc.Global.TheSendSync as heap
use Rattle.trace_text.proofs.call.TraceCall.TheSendSync as call
use Rattle.arena_server.proofs.Crossing.{server_sync}
use Rattle.arena_server.proofs.sender.Sender.TheSendSync as sender
use Rattle.serve_runs.proofs.running.+fn-send_all-join_mut+arg2+fn-send_all-join_mut+arg3+send_all.Goals as goal

pub join_mut-requires-send-F : goal.join_mut-requires-send-F
join_mut-requires-send-F g t c κs within = search (sendable, server_sync, sender.the_send, call.the_sync, heap.the_sync, heap.the_send) depth 20
