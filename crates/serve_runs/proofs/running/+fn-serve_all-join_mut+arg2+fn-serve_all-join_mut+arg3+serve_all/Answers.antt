use denote.Param.Send.{sendable}
use Rattle.std.proofs.alloc.Global.TheSendSync as heap
use Rattle.trace_text.proofs.call.TraceCall.TheSendSync as call
use Rattle.arena_server.proofs.Crossing.{server_sync}
use Rattle.arena_server.proofs.owner.Owner.TheSendSync as owner
use Rattle.serve_runs.proofs.clerk.Clerk.TheSendSync as clerk
use Rattle.serve_runs.proofs.running.+fn-serve_all-join_mut+arg2+fn-serve_all-join_mut+arg3+serve_all.Goals as goal

pub join_mut-first-requires-send-F : goal.join_mut-first-requires-send-F
join_mut-first-requires-send-F g t c κs within = search (sendable, server_sync, clerk.the_send, owner.the_send, call.the_sync, heap.the_sync, heap.the_send) depth 20
