-- What may cross threads.
use denote.RattleType.{RattleType}
use denote.Param.Send.{IsSend, IsSync, sendable, part_keyless, recorded_send, recorded_sync, struct_send, struct_sync, view_send, view_sync}
use denote.Struct.Declared.{shape}
use Rattle.std.specs.contracts.snapshot.Snapshot as Snapshot
use Rattle.std.proofs.Crossing.{frees}
use Rattle.std.proofs.vec.Vec.TheSendSync as vec
use Rattle.std.proofs.alloc.Global.TheSendSync as heap
use Rattle.heap_model.proofs.call.Entry.TheSendSync as entry
use Rattle.arena_core.proofs.arena.Arena.TheSendSync as arena
use Rattle.pmem_lines.specs.declared.pmem.Pmem.{Ghosts}
use Rattle.shared_pool.specs.contracts.value.PoolArena.TheInside as PI
use Rattle.shared_pool.specs.contracts.value.PoolArenaLogged.TheImpl as Logs
use Rattle.arena_lock.specs.contracts.lock.ArenaLock as Lock
use Rattle.crossbeam_utils.specs.contracts.cache_padded.CachePadded as Padded
use Rattle.arena_core.specs.contracts.arena.Arena as Arena
use Rattle.shared_pool.specs.contracts.pool.SharedPool as Pool
use Rattle.shared_pool.specs.contracts.pool.SharedPool.TheInside as Inner
use Rattle.crossbeam_utils.proofs.cache_padded.CachePadded.TheSendSync as padded
use Rattle.arena_lock.proofs.lock.ArenaLock.TheSendSync as lock
use Rattle.heap_model.specs.contracts.call.Entry as Entry
use Rattle.std.specs.contracts.vec.Vec as Vec
use Rattle.std.specs.contracts.alloc.Global as Global
use Rattle.std.specs.contracts.impls.GlobalAllocator.TheImpl as Impl
use Rattle.shared_pool.specs.contracts.value.PoolArena.{the_row}

snapshot_send : (Y : RattleType) → IsSend (Snapshot.the_row Y)
snapshot_send Y = record { owned = λ d vs. ((λ vss. (tt, ((λ uss. (tt, tt)), tt))), tt); leaving = λ k f vs. tt }

snapshot_sync : (Y : RattleType) → IsSync (Snapshot.the_row Y)
snapshot_sync Y = record { shared = λ d b o κ q. part_keyless (Snapshot.the_row Y) (snapshot_send Y) q d b o }

inside_send : (P : RattleType) (g : Ghosts P.Denot) → IsSend P → IsSend (PI.the_row P g)
inside_send P g s =
    let was : IsSend (Snapshot.the_row (Arena.the_row P g)) = snapshot_send (Arena.the_row P g) in
    let one : IsSend Entry.the_row = entry.the_send in
    let all : IsSend (Vec.the_row Entry.the_row Global.the_row Impl.ghosts) = vec.the_send Entry.the_row Global.the_row Impl.ghosts one heap.the_send frees in
    recorded_send (PI.the_field P g).row _ _ (PI.the_type P g).to_one (struct_send (shape (PI.the_type P g)) (was, (search (sendable, arena.the_send) depth 20, (all, tt))))

pub held_send : (P : RattleType) (g : Ghosts P.Denot) → IsSend P → IsSend (the_row P g)
held_send P g s = view_send _ _ _ _ _ (inside_send P g s)

pub pool_sync : (P : RattleType) (g : Ghosts P.Denot) → IsSend P → IsSync (Pool.the_row P g)
pool_sync P g s =
    let held : IsSend (the_row P g) = held_send P g s in
    let L : RattleType = Lock.the_row (the_row P g) (Logs.ghosts P g Logs.no_dict) in
    let one : IsSync L = search (sendable, lock.the_sync) depth 20 in
    let two : IsSync (Padded.the_row L) = search (sendable, padded.the_sync) depth 20 in
    let all : IsSync (Vec.the_row (Padded.the_row L) Global.the_row Impl.ghosts) = search (sendable, vec.the_sync, heap.the_sync) in
    view_sync _ _ _ _ _ (recorded_sync (Inner.the_field P g).row _ _ (Inner.the_type P g).to_one (struct_sync (shape (Inner.the_type P g)) (search sendable, (all, tt))))
