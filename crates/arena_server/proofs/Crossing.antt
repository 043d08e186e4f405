-- What may cross threads.
use denote.RattleType.{RattleType}
use denote.Param.Send.{IsSend, IsSync, sendable, recorded_sync, struct_sync, view_sync}
use denote.Struct.Declared.{shape}
use Rattle.std.proofs.vec.Vec.TheSendSync as vec
use Rattle.std.proofs.alloc.Global.TheSendSync as heap
use Rattle.std.proofs.Crossing.{frees}
use Rattle.std.specs.contracts.option.Option as Option
use Rattle.std.specs.contracts.vec.Vec as Vec
use Rattle.std.specs.contracts.alloc.Global as Global
use Rattle.std.specs.contracts.impls.GlobalAllocator.TheImpl as Heap
use Rattle.crossbeam_queue.proofs.array_queue.Slotted.TheSendSync as queue
use Rattle.crossbeam_queue.specs.contracts.array_queue.Slotted as Slotted
use Rattle.crossbeam_queue.specs.contracts.array_queue.Doing as Doing
use Rattle.crossbeam_queue.specs.contracts.array_queue.Turns as Turns
use Rattle.crossbeam_queue.specs.contracts.array_queue.TurnsTableRuleOptionDoingUnit.TheImpl as Ruled
use Rattle.pmem_lines.specs.declared.pmem.Pmem.{Ghosts}
use Rattle.shared_pool.proofs.Crossing.{pool_sync}
use Rattle.arena_server.proofs.request.Request.TheSendSync as request
use Rattle.arena_server.specs.contracts.request.Request as Request
use Rattle.arena_server.specs.contracts.part.Part as Part
use Rattle.arena_server.specs.contracts.rule.InOrder as InOrder
use Rattle.arena_server.specs.contracts.rule.InOrderProtocolRequestPart.TheImpl as Rule
use Rattle.arena_server.specs.contracts.server.Server as Server
use Rattle.arena_server.specs.contracts.server.Server.TheInside as Inner

-- the rows of a queue's type, as its parameters stand
abbrev Items : RattleType
Items = Option.the_row Request.the_row

abbrev Views : RattleType
Views = Doing.the_row Request.the_row Part.the_row

abbrev Law : RattleType
Law = Turns.the_row InOrder.the_row

abbrev Q : RattleType
Q = Slotted.the_row Items Views Law Global.the_row (Ruled.ghosts Request.the_row Part.the_row InOrder.the_row Rule.ghosts Ruled.no_dict) Heap.ghosts

queue_sync : IsSync Q
queue_sync =
    let one : IsSend Items = search (sendable, request.the_send) depth 20 in
    queue.the_sync Items Views Law Global.the_row (Ruled.ghosts Request.the_row Part.the_row InOrder.the_row Rule.ghosts Ruled.no_dict) Heap.ghosts one heap.the_send heap.the_sync (search (sendable, frees))

pub server_sync : (P : RattleType) (g : Ghosts P.Denot) → IsSend P → IsSync (Server.the_row P g)
server_sync P g s =
    let one : IsSync Q = queue_sync in
    let queues : IsSync (Vec.the_row Q Global.the_row Heap.ghosts) = search (sendable, vec.the_sync, heap.the_sync) in
    view_sync _ _ _ _ _ (recorded_sync (Inner.the_field P g).row _ _ (Inner.the_type P g).to_one (struct_sync (shape (Inner.the_type P g)) (pool_sync P g s, (queues, (search sendable, (search sendable, tt))))))
