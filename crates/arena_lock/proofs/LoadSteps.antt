-- The loads of the published length and behind a join: each keeps the rule, and tells what it is to tell.
use Rattle.std.proofs.Common.{◌≡◌, ℕ, true, List, length, get_or, refl, sym, subst, arith, Option}
use mathlib.Core.Option.{none}
use Rattle.atomic_table.specs.Table.{State, Me, step, keeps, Allows}
use Rattle.heap_model.specs.declared.call.Entry.{Entry}
use Rattle.arena_lock.specs.declared.opening.Opening.{Opening}
use Rattle.arena_lock.specs.declared.view.SeatView.{SeatView}
use Rattle.arena_lock.specs.Legality.{IsLegal}
use Rattle.arena_lock.specs.Tickets.{IsTicketed}
use Rattle.arena_lock.specs.TicketSteps.{counted_view, counted, settled}
use Rattle.arena_lock.proofs.LegalBeginnings.{legal_prefix}
use Rattle.arena_lock.proofs.Prefixes.{prefix_length}
use Rattle.arena_lock.proofs.Views.{unmoved}

module _ {T : Type 0} (op : T → Opening) (jr : T → List Entry) (o : Opening) (start : List Entry) (seats : ℕ) where
  abbrev Holds : State (Option T) SeatView → Type 0
  Holds = IsTicketed op jr o start seats

  pub reads : (slots id : ℕ) (me : Me (Option T) SeatView) → me.0.live ≡ true → Allows Holds slots id me 2 (λ x. x) (counted (step slots 2 0 0 none) me)
  reads slots id me live s r _ at small =
      let v : SeatView = me.0 in let k = r.each_seat id v at live in let p = k.past in let n : ℕ = get_or s.words 2 0 in let w : SeatView = counted_view v n in
      let len : n ≡ length r.log = r.published in let seen = prefix_length v.past.seen r.log p.seen in let known = p.known in (
        w,
        keeps,
        tt,
        unmoved op jr o start seats s r 2 id v w at refl refl refl (λ _. record { past = record { opens = p.opens; seen = p.seen; told = p.told; owned = p.owned; mine = p.mine; known = omega arith }; stands = k.stands }),
        (refl, omega arith, omega arith),
      )

  pub tells : (slots id : ℕ) (me : Me (Option T) SeatView) → me.0.live ≡ true → Allows Holds slots id me 0 (λ x. x) (settled (step slots 0 0 0 none) me)
  tells slots id me live s r _ at _ = let v : SeatView = me.0 in let k = r.each_seat id v at live in let p = k.past in (
    v,
    keeps,
    tt,
    unmoved op jr o start seats s r 0 id v v at refl refl refl (λ _. k),
    (refl, p.mine, p.told, legal_prefix v.past.opening v.past.seen r.log p.seen (subst (λ z. IsLegal z r.log) (sym p.opens) r.legal)),
  )
