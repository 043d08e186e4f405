use Rattle.std.proofs.Common.{◌≡◌, ◌∷◌, [], ◌∙◌, sym, subst, List, map}
use Rattle.arena_lock.specs.Known.{Lock}
use Rattle.shared_pool.specs.Rows.{each_of}
use Rattle.arena_server.specs.Senders.{SenderState}
use Rattle.arena_server.specs.Owners.{OwnerState}
use Rattle.arena_server.specs.Closed.{Desk, IsDesk, AllDesks}
use Rattle.single_server.proofs.OneArena.{only_item, one_desk}
use Rattle.single_server.proofs.one_arena.close_one.Goals as goal

pub returns-in-Ok : goal.returns-in-Ok
returns-in-Ok g c =
    let whole = subst (λ (z : List SenderState × List OwnerState). AllDesks 0 z.0 z.1 (map (λ (l : Lock). l.opening) c.args.server.pool.locks) (each_of {B = Desk} c.in-Ok.desks.items (λ d. record { journal = d.journal.items; left = d.left.items; arena = d.arena })))
    (λ i. (c.in_ok-senders.ensures.items i, c.in_ok-owners.ensures.items i)) c.in-Ok.ensures.closed in
    let one = one_desk (λ d. record { journal = d.journal.items; left = d.left.items; arena = d.arena }) c.in-Ok.desks.items (c.args.sender ∷ []) c.args.owner _ c.requires.owner.1 (c.in-Ok.ensures.arenas ∙ c.requires.server.1) whole in
    let same : c.remove.result ≡ one.0 = only_item c.in-Ok.desks.items c.remove.result one.0 one.2 c.remove.ensures.value in
    (one.1, subst (λ d. IsDesk 0 (c.args.sender ∷ []) c.args.owner one.1 (record { journal = d.journal.items; left = d.left.items; arena = d.arena })) (sym same) one.3)
