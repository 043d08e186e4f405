use Rattle.std.proofs.Common.{rules, ◌++◌, subst}
use denote.Param.{param}
use denote.Param.Send.{IsSend, IsSync, sendable}
use Rattle.shared_pool.proofs.Crossing.{pool_sync}
use Rattle.shared_pool.proofs.pass.Pass.TheSendSync as pass
use Rattle.trace_text.proofs.call.TraceCall.TheSendSync as call
use Rattle.std.proofs.alloc.Global.TheSendSync as heap
use Rattle.trace_workers.specs.Workers.{AllReady}
use Rattle.trace_workers.proofs.Calls.{ready_front, ready_back}
use Rattle.trace_workers.proofs.running.+fn-work_all-join_mut+arg2+fn-work_all-join_mut+arg3+work_all.Goals as goal

pub join_mut-first-requires-send-F : goal.join_mut-first-requires-send-F
join_mut-first-requires-send-F g t c κs within = search (sendable, pool_sync, pass.the_send, call.the_sync, heap.the_sync, heap.the_send) depth 20

pub join_mut-first-requires-after_bounds : goal.join_mut-first-requires-after_bounds
join_mut-first-requires-after_bounds g t c κs within =
    let front = c.split_at_mut-front.result.0.now in
    let back = c.split_at_mut-front.result.1.now in
    let whole : AllReady c.args.pool.now (front ++ back) = subst (AllReady c.args.pool.now) c.split_at_mut-front.ensures.value c.requires.ready in
    let first = ready_front c.args.pool.now front back whole in
    let second = ready_back c.args.pool.now front back whole in
    let r : IsSync (param 0 g.row.R) = search sendable in
    let s : IsSync (param 2 g.row.G) = search sendable in
    let p : IsSend (param 1 g.row.P) = search sendable in
    let few = c.requires.few in
    let arenas = c.requires.arenas in (
      (search rules, ((λ a m. m), ((λ a m. m), ((λ a m. m), ((r, s, first, arenas, few), (p, r, s)))))),
      (search rules, ((λ a m. m), ((λ a m. m), ((λ a m. m), ((r, s, second, arenas, few), (p, r, s)))))),
    )
