use Rattle.std.proofs.Common.{ℕ, List, map, length, ◌≡◌, ◌∙◌, ap, sym, subst}
use Rattle.serve_runs.proofs.Common.{length-map, Entry, ArenaState, Lock, Opening, HasAll, each_of, by_owner, AllAnswer, OwnerState, Clerk}
use Rattle.arena_server.specs.Closed.{Desk, AllDesks, owner_numbers}
use Rattle.arena_server.specs.Servers.{AllOwnersOf}
use Rattle.arena_server.proofs.NewParties.{has_numbers, sender_numbers}
use Rattle.serve_runs.specs.Signed.{all_signed, AllFit}
use Rattle.serve_runs.proofs.Eaches.{clerks_owners, ok_so}
use Rattle.serve_runs.proofs.Moves.{map_twice}
use Rattle.serve_runs.proofs.ToldDesks.{all_answer, all_fit, order_numbers}
use Rattle.serve_runs.proofs.closing.close_told.Given as given
use Rattle.serve_runs.proofs.closing.close_told.Goals as goal

pub close-requires-clause-all_senders : goal.close-requires-clause-all_senders
close-requires-clause-all_senders g c =
    subst (HasAll c.args.server.senders) (sym (c.requires.numbers ∙ sender_numbers c.args.server.queues 0 c.args.server.senders)) (has_numbers c.args.server.senders)

pub close-requires-clause-owners : goal.close-requires-clause-owners
close-requires-clause-owners g c = subst (AllOwnersOf c.args.server) (sym c.in-Ok.ensures.owners) (clerks_owners c.args.server c.args.clerks.items c.requires.owners)

pub close-requires-clause-all_owners : goal.close-requires-clause-all_owners
close-requires-clause-all_owners g c =
    let numbers = ap owner_numbers c.in-Ok.ensures.owners ∙ order_numbers 0 c.args.clerks.items c.requires.order in
    subst (λ (z : ℕ × List ℕ). HasAll z.0 z.1) (λ i. (c.requires.all i, sym numbers i)) (has_numbers (length c.args.clerks.items))

-- the desks, and the arenas with their journals

abbrev desks : (g : given.Over) → goal.In-Ok-close g → List Desk
desks g c = each_of {B = Desk} c.in-Ok-close.desks.items (λ d. record { journal = d.journal.items; left = d.left.items; arena = d.arena })

abbrev openings : (g : given.Over) → goal.In-Ok-close g → List Opening
openings g c = map (λ (l : Lock). l.opening) c.args.server.pool.locks

told : (g : given.Over) (c : goal.In-Ok-close g) → map (λ (d : Desk). (d.journal, d.arena)) (desks g c) ≡ each_of {B = List Entry × ArenaState} c.in-Ok-close.desks.items (λ d. (d.journal.items, d.arena))
told g c = map_twice c.in-Ok-close.desks.items _ (λ (d : Desk). (d.journal, d.arena))

many : (g : given.Over) (c : goal.In-Ok-close g) → length c.args.clerks.items ≡ length (desks g c)
many g c = c.requires.all ∙ sym (length-map c.in-Ok-close.desks.items _ ∙ c.in-Ok-close.ensures.arenas)

there : (g : given.Over) (c : goal.In-Ok-close g) → AllDesks 0 c.args.senders.items (each_of c.args.clerks.items (λ (z : Clerk). z.owner)) (openings g c) (desks g c)
there g c = subst (λ (os : List OwnerState). AllDesks 0 c.args.senders.items os (openings g c) (desks g c)) c.in-Ok.ensures.owners c.in-Ok-close.ensures.closed

pub sign_all-requires : goal.sign_all-requires
sign_all-requires g c =
    subst (λ (z : List (List ℕ) × List (List Entry × ArenaState)). AllFit z.0 z.1) (λ i. (sym c.in-Ok.ensures.notes i, told g c i))
    (all_fit c.args.calls.now c.args.senders.items c.args.clerks.items (openings g c) (desks g c) c.requires.order c.requires.served (many g c) (there g c))

pub returns-in-Ok-close : goal.returns-in-Ok-close
returns-in-Ok-close g c =
    let calls = c.args.calls.now in
    let server = c.args.server in
    let all = all_answer server.senders calls c.args.senders.items c.args.clerks.items (openings g c.before) (desks g c.before) (c.requires.numbers ∙ sender_numbers server.queues 0 server.senders) c.requires.threads c.requires.sent c.requires.order c.requires.served (many g c.before) (there g c.before) in
    let signed : AllAnswer by_owner calls 0 (openings g c.before) (all_signed (each_of c.in-Ok.notes.items (λ n. n.items)) (each_of {B = List Entry × ArenaState} c.in-Ok-close.desks.items (λ d. (d.journal.items, d.arena)))) =
    subst (λ (z : List (List ℕ) × List (List Entry × ArenaState)). AllAnswer by_owner calls 0 (openings g c.before) (all_signed z.0 z.1)) (λ i. (sym c.in-Ok.ensures.notes i, told g c.before i)) all in
    ok_so c.sign_all.result _ _ (λ closed is. subst (AllAnswer by_owner calls 0 (openings g c.before)) (sym is) signed) c.sign_all.ensures
