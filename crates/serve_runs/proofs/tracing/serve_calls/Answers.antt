use Rattle.std.proofs.Common.{◌≡◌, ◌≤◌, ◌^◌, ◌∙◌, ap, sym, subst, length, List, ℕ, arith}
use Rattle.serve_runs.proofs.Common.{length-map, Each, each_of, Lock, opened, Opening, SenderState, OwnerState, ServerState, sent_at, IsSenderOf, Clerk}
use Rattle.arena_server.specs.Closed.{owner_numbers}
use Rattle.arena_server.specs.Started.{new_owners}
use Rattle.arena_server.proofs.NewParties.{IsFreshOwner, senders_of_server, senders_none, owners_of_server, owner_numbers_from, length_owners}
use Rattle.serve_runs.specs.Clerks.{IsNewOwner}
use Rattle.serve_runs.specs.Sent.{HasSentNothing}
use Rattle.serve_runs.proofs.Eaches.{each_so}
use Rattle.serve_runs.proofs.ToldDesks.{order_from}
use Rattle.serve_runs.proofs.tracing.serve_calls.Given as given
use Rattle.serve_runs.proofs.tracing.serve_calls.Goals as goal

-- the owners are those that a server is started with
owners : (g : given.Over) (c : goal.In-Ok-clerks_of g) → c.in-Ok.opened.owners.items ≡ new_owners c.in-Ok.opened.server.pool.locks c.in-Ok.opened.server.senders 0 c.in-Ok.opened.server.queues
owners g c = c.in-Ok.ensures.owners ∙ ap (λ n. new_owners c.in-Ok.opened.server.pool.locks n 0 c.in-Ok.opened.server.queues) (sym c.in-Ok.ensures.server.0)

-- there is a lock for each queue
locks : (g : given.Over) (c : goal.In-Ok-clerks_of g) → length c.in-Ok.opened.server.pool.locks ≡ length c.in-Ok.opened.server.queues
locks g c =
    sym (length-map c.in-Ok.opened.server.pool.locks (λ (l : Lock). l.opening)) ∙ (ap length c.in-Ok.ensures.openings ∙ (length-map {B = Opening} c.args.arenas.items (λ a. opened a) ∙ sym c.in-Ok.ensures.server.1))

new_of : (server : ServerState) (o : OwnerState) → IsFreshOwner server o → IsNewOwner server o
new_of server o h = record { of = h.of; none = h.none; skipped = h.skipped; turns = omega (arith, h.turns) }

pub serve_opened-requires-clause-ready : goal.serve_opened-requires-clause-ready
serve_opened-requires-clause-ready g c κs within =
    let server = c.in-Ok.opened.server in
    c.in-Ok-clerks_of.ensures.ready server (subst (Each (IsNewOwner server)) (sym (owners g c))
    (each_so (IsFreshOwner server) (IsNewOwner server) (new_owners server.pool.locks server.senders 0 server.queues) (new_of server) (owners_of_server server (locks g c))))

pub serve_opened-requires-clause-order : goal.serve_opened-requires-clause-order
serve_opened-requires-clause-order g c κs within =
    let server = c.in-Ok.opened.server in
    order_from 0 (length server.queues) c.in-Ok-clerks_of.clerks.items
    (ap owner_numbers (c.in-Ok-clerks_of.ensures.owners ∙ owners g c) ∙ owner_numbers_from server.pool.locks server.senders 0 server.queues)

pub serve_opened-requires-clause-all : goal.serve_opened-requires-clause-all
serve_opened-requires-clause-all g c κs within =
    let server = c.in-Ok.opened.server in
    sym (length-map c.in-Ok-clerks_of.clerks.items (λ (z : Clerk). z.owner)) ∙ (ap length (c.in-Ok-clerks_of.ensures.owners ∙ owners g c) ∙ length_owners server.pool.locks server.senders 0 server.queues)

pub serve_opened-requires-clause-senders : goal.serve_opened-requires-clause-senders
serve_opened-requires-clause-senders g c κs within =
    let server = c.in-Ok.opened.server in
    subst (Each (λ s. IsSenderOf server s)) (sym c.in-Ok.ensures.senders) (senders_of_server server 0 c.args.senders)

pub serve_opened-requires-clause-none : goal.serve_opened-requires-clause-none
serve_opened-requires-clause-none g c κs within = subst (Each HasSentNothing) (sym c.in-Ok.ensures.senders) (senders_none c.in-Ok.opened.server.queues 0 c.args.senders)
