use Rattle.std.proofs.Common.{rules, arith, ◌≡◌, ◌∙◌, ap, sym, length}
use Rattle.std.proofs.lemmas.List.{length-map}
use Rattle.single_server.proofs.OneArena.{one_owner, only_item, first_owner, first_sender}
use Rattle.single_server.proofs.one_arena.open_one.Goals as goal

pub remove-owner-requires : goal.remove-owner-requires
remove-owner-requires g c =
    let arenas : length c.push_reserved.new.self.items ≡ 1 = search rules in
    let one = one_owner c.in-Ok.opened.server.pool.locks c.in-Ok.opened.server.queues (c.in-Ok.ensures.server.1 ∙ arenas) in
    let many : length c.in-Ok.opened.owners.items ≡ 1 = ap length (c.in-Ok.ensures.owners ∙ one.2) in
    omega (arith, many, c.in-Ok.opened.owners.ok.0)

pub returns-clause-sender : goal.returns-clause-sender
returns-clause-sender g c =
    let server = c.in-Ok.opened.server in
    let arenas : length c.push_reserved.new.self.items ≡ 1 = search rules in
    let one = one_owner server.pool.locks server.queues (c.in-Ok.ensures.server.1 ∙ arenas) in
    first_sender server.queues one.0 c.remove-sender.result one.1 (only_item c.in-Ok.opened.senders.items c.remove-sender.result _ c.in-Ok.ensures.senders c.remove-sender.ensures.value)

pub returns-clause-owner : goal.returns-clause-owner
returns-clause-owner g c =
    let server = c.in-Ok.opened.server in
    let arenas : length c.push_reserved.new.self.items ≡ 1 = search rules in
    let one = one_owner server.pool.locks server.queues (c.in-Ok.ensures.server.1 ∙ arenas) in
    let locks : length server.pool.locks ≡ 1 = sym (length-map server.pool.locks _) ∙ (ap length c.in-Ok.ensures.openings ∙ (length-map c.push_reserved.new.self.items _ ∙ arenas)) in
    first_owner server one.0 c.remove-owner.result one.1 locks c.in-Ok.ensures.server.0 (only_item c.in-Ok.opened.owners.items c.remove-owner.result _ (c.in-Ok.ensures.owners ∙ one.2) c.remove-owner.ensures.value)
