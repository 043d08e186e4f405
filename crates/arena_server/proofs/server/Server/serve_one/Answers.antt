use Rattle.std.proofs.Common.{◌∙◌, ◌≡◌, ◌<◌, length, ap, sym, subst}
use Rattle.arena_server.proofs.Common.{length-map, PassState, Called}
use Rattle.arena_server.specs.Owners.{OwnerState}
use Rattle.arena_server.specs.Servers.{ServerState}
use Rattle.arena_server.proofs.Servings.{has_part, served_owner}
use Rattle.arena_server.proofs.server.Server.serve_one.Goals as goal

pub invariant_of-owner-2 : goal.invariant_of-owner-2
invariant_of-owner-2 g c =
    let p : PassState = c.owner.inside.pass in
    let is : c.args.owner.now.pass ≡ p = ap (λ (z : OwnerState). z.pass) (sym (c.owner.view_is ∙ c.hold-request.ensures.holds)) in
    let here : c.number-arena.result ≡ p.number = c.number-arena.ensures in
    let locks : length c.args.self.now.queues ≡ length c.args.self.now.pool.locks =
    ap (λ (z : ServerState). length z.queues) (sym c.self.view_is) ∙ (length-map c.self.inside.queues.items _ ∙ (c.self.invariant.0 ∙ ap (λ (z : ServerState). length z.pool.locks) c.self.view_is)) in
    let room : p.number < length p.parts = subst (λ (z : PassState). z.number < length z.parts) is (has_part c.args.self.now.pool c.args.owner.now.pass c.args.owner.now.pass.number c.requires.owner.pass (subst (λ n. c.args.owner.now.pass.number < n) locks c.requires.owner.arena)) in
    served_owner p c.call.new.pass c.owner.inside.till c.hold-request.result c.in_ok-receipt.receipt (ap (λ (z : OwnerState). z.held) (c.owner.view_is ∙ c.hold-request.ensures.holds)) (ap (λ (z : OwnerState). z.skipped) (c.owner.view_is ∙ c.hold-request.ensures.holds) ∙ c.requires.not_skipped) room
    (subst (λ n. Called n c.hold-request.result.call p c.call.new.pass c.in_ok-receipt.receipt) here c.in_ok-receipt.ensures.called) c.owner.invariant
