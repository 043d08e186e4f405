use denote.Param.Send.{sendable}
use Rattle.std.proofs.alloc.Global.TheSendSync as heap
use Rattle.shared_pool.proofs.Crossing.{pool_sync}
use Rattle.pool_tests.proofs.callers.Caller.TheSendSync as caller
use Rattle.pool_tests.proofs.watched.Flags.TheSendSync as flags
use Rattle.pool_tests.proofs.threads.try_beside_a_store.Goals as goal

pub join_mut-requires-send-F : goal.join_mut-requires-send-F
join_mut-requires-send-F g c κs within = search (sendable, pool_sync, caller.the_send, flags.the_sync, heap.the_sync, heap.the_send) depth 20
