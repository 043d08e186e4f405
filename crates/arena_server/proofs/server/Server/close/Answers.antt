use Rattle.std.proofs.Common.{◌≡◌, ◌∙◌, ℕ, List, map, length, ap, sym, subst}
use Rattle.arena_server.proofs.Common.{length-map, Entry, ArenaState, Lock, AllFitLocks, HasAll, AllClosed, each_of}
use Rattle.arena_server.specs.declared.request.Request.{Request}
use Rattle.arena_server.specs.Senders.{AllSendTo, numbers}
use Rattle.arena_server.specs.Owners.{OwnerState}
use Rattle.arena_server.specs.Closed.{Desk, AllDesks, owner_numbers}
use Rattle.arena_server.specs.Emptied.{arenas_of, AllTakeThere, AllEmptied}
use Rattle.arena_server.specs.Servers.{ServerState, AllOwnersOf}
use Rattle.arena_server.proofs.Desks.{all_desks, map_both, closed_length}
use Rattle.arena_server.proofs.OwnerParts.{fit_locks, numbers_same, arenas_same, take_there}
use Rattle.arena_server.proofs.server.Server.close.Goals as goal

pub close-requires-clause-fits : goal.close-requires-clause-fits
close-requires-clause-fits g c =
    let P = c.part_owners-owners.result.1.items in
    let T = c.part_owners-owners.result.2.items in
    let owners = c.part_owners-owners.ensures in
    subst (λ (z : ServerState). AllFitLocks (map (λ (l : Lock). l.id) z.pool.locks) P) (sym c.self.view_is) (fit_locks c.args.self P T owners.each (subst (AllOwnersOf c.args.self) (sym owners.owners) c.requires.owners))

pub close-requires-clause-all : goal.close-requires-clause-all
close-requires-clause-all g c =
    let P = c.part_owners-owners.result.1.items in
    let T = c.part_owners-owners.result.2.items in
    let owners = c.part_owners-owners.ensures in
    let many : length c.args.self.queues ≡ c.self.inside.pool.seats = sym (c.self.invariant.4 ∙ (sym (length-map c.self.inside.queues.items _) ∙ ap (λ (z : ServerState). length z.queues) c.self.view_is)) in
    let numbers_are : owner_numbers c.args.owners.items ≡ map (λ p. p.number) P = ap owner_numbers (sym owners.owners) ∙ numbers_same P T owners.each in
    subst (λ (z : ℕ × List ℕ). HasAll z.0 z.1) (λ i. (many i, numbers_are i)) c.requires.all_owners

pub close_all-requires-clause-queues : goal.close_all-requires-clause-queues
close_all-requires-clause-queues g c =
    let closed = closed_length _ _ _ _ _ c.in-Ok-close.ensures.closed in
    (c.self.invariant.1, sym (length-map c.in-Ok-close.closed.items _) ∙ (closed ∙ (length-map c.self.inside.pool.locks _ ∙ sym c.self.invariant.0)))

pub close_all-requires-clause-tills : goal.close_all-requires-clause-tills
close_all-requires-clause-tills g c =
    let P = c.part_owners-owners.result.1.items in
    let T = c.part_owners-owners.result.2.items in
    let owners = c.part_owners-owners.ensures in
    let many : length c.args.self.queues ≡ length c.self.inside.queues.items = sym (sym (length-map c.self.inside.queues.items _) ∙ ap (λ (z : ServerState). length z.queues) c.self.view_is) in
    let arenas : owner_numbers c.args.owners.items ≡ arenas_of T = ap owner_numbers (sym owners.owners) ∙ (numbers_same P T owners.each ∙ sym (arenas_same P T owners.each)) in (
      subst (λ (z : ServerState). AllTakeThere z.queues z.senders T) (sym c.self.view_is) (take_there c.args.self P T owners.each (subst (AllOwnersOf c.args.self) (sym owners.owners) c.requires.owners)),
      subst (λ (z : ℕ × List ℕ). HasAll z.0 z.1) (λ i. (many i, arenas i)) c.requires.all_owners,
    )

pub close_all-requires-clause-senders : goal.close_all-requires-clause-senders
close_all-requires-clause-senders g c = (
  subst (λ (z : ServerState). AllSendTo z.queues c.args.senders.items) (sym c.self.view_is) c.requires.senders,
  subst (λ (z : ServerState). HasAll z.senders (numbers c.args.senders.items)) (sym c.self.view_is) c.requires.all_senders,
)

pub returns-in-Ok-close-clause-arenas : goal.returns-in-Ok-close-clause-arenas
returns-in-Ok-close-clause-arenas g c =
    let closed = closed_length _ _ _ _ _ c.in-Ok-close.ensures.closed in
    sym (length-map c.close_all.result.items _) ∙ (ap length c.close_all.ensures.closed ∙ (closed ∙ (length-map c.self.inside.pool.locks _ ∙ (sym c.self.invariant.0 ∙ (sym (length-map c.self.inside.queues.items _) ∙ ap (λ (z : ServerState). length z.queues) c.self.view_is)))))

pub returns-in-Ok-close-clause-closed : goal.returns-in-Ok-close-clause-closed
returns-in-Ok-close-clause-closed g c =
    let P = c.part_owners-owners.result.1.items in
    let T = c.part_owners-owners.result.2.items in
    let owners = c.part_owners-owners.ensures in
    let ds : List Desk = each_of {B = Desk} c.close_all.result.items (λ d. record { journal = d.journal.items; left = d.left.items; arena = d.arena }) in
    let lefts : map (λ (d : Desk). d.left) ds ≡ each_of {B = List Request} c.close_all.result.items (λ d. d.left.items) = map_both c.close_all.result.items _ (λ (d : Desk). d.left) in
    let closed : map (λ (d : Desk). (d.journal, d.arena)) ds ≡ each_of {B = List Entry × ArenaState} c.in-Ok-close.closed.items (λ d. (d.journal.items, d.arena)) = map_both c.close_all.result.items _ (λ (d : Desk). (d.journal, d.arena)) ∙ c.close_all.ensures.closed in
    let many : length c.args.self.queues ≡ c.self.inside.pool.seats = sym (c.self.invariant.4 ∙ (sym (length-map c.self.inside.queues.items _) ∙ ap (λ (z : ServerState). length z.queues) c.self.view_is)) in
    let numbers_are : owner_numbers c.args.owners.items ≡ map (λ p. p.number) P = ap owner_numbers (sym owners.owners) ∙ numbers_same P T owners.each in
    let openings : length (map (λ (l : Lock). l.opening) c.self.inside.pool.locks) ≡ c.self.inside.pool.seats = length-map c.self.inside.pool.locks _ ∙ (sym c.self.invariant.0 ∙ sym c.self.invariant.4) in
    let all = all_desks c.self.inside.pool.seats P T c.args.senders.items (map (λ (l : Lock). l.opening) c.self.inside.pool.locks) ds
    (subst (λ (z : ℕ × List ℕ). HasAll z.0 z.1) (λ i. (many i, numbers_are i)) c.requires.all_owners) owners.each openings
    (subst (AllEmptied 0 c.args.senders.items T) (sym lefts) c.close_all.ensures.emptied)
    (subst (AllClosed c.self.inside.pool.seats 0 P (map (λ (l : Lock). l.opening) c.self.inside.pool.locks)) (sym closed) c.in-Ok-close.ensures.closed) in
    subst (λ (z : List OwnerState × ServerState). AllDesks 0 c.args.senders.items z.0 (map (λ (l : Lock). l.opening) z.1.pool.locks) ds) (λ i. (owners.owners i, c.self.view_is i)) all
