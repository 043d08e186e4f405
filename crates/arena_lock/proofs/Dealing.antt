-- The seats that `new` deals out.
use Rattle.std.proofs.Common.{◌≡◌, ℕ, zero, suc, ◌+◌, ◌-◌, ◌*◌, ◌^◌, ◌<◌, List, [], ◌∷◌, ◌++◌, refl, ap, sym, ◌∙◌, subst, arith, append_assoc}
use Rattle.atomic_table.specs.Table.{Splits}
use Rattle.atomic_table.specs.Seated.{TableId}
use Rattle.heap_model.specs.declared.call.Entry.{Entry}
use Rattle.arena_lock.specs.declared.opening.Opening.{Opening}
use Rattle.arena_lock.specs.declared.view.SeatView.{SeatView}
use Rattle.arena_lock.specs.Journal.{numbers}
use Rattle.arena_lock.specs.Tickets.{IsTicketed, IsIdle, new_view}
use Rattle.arena_lock.specs.TicketSteps.{rest_view, dealt_view}
use Rattle.arena_lock.specs.Known.{Known, known_in, new_seats}
use Rattle.arena_lock.proofs.SeatSteps.{deals}

-- the dealer with the numbers from k on
abbrev pub dealer : Opening → List Entry → ℕ → ℕ → SeatView
dealer o log k n = new_view o log (numbers k n) 0 (n * 2 ^ 57)

-- a dealer with a number left may deal it
pub deals_next : {T : Type 0} (op : T → Opening) (jr : T → List Entry) (o' : Opening) (start : List Entry) (seats : ℕ) (id : ℕ) (v : SeatView) (o : Opening) (log : List Entry) (k n m : ℕ) → k < m → k + n ≡ m → v ≡ dealer o log k n
    → Splits (IsTicketed op jr o' start seats) id v (rest_view v) (dealt_view v)
deals_next op jr o' start seats id v o log k zero m l e is = absurd (omega arith)
deals_next op jr o' start seats id v o log k (suc n) m l e is =
    deals op jr o' start seats id v k n (subst IsIdle (sym is) record { live = refl; idle = refl }) (ap (λ z. z.past.numbers) is) (omega (arith, ap (λ z. z.turns) is))

-- the seats that were dealt, and those that the dealer has still to deal, are all of them
abbrev pub Goes : TableId → Opening → List Entry → ℕ → ℕ → List Known → SeatView → Type 0
Goes z o log k m xs v = (n : ℕ) × (k + n ≡ m) × (v ≡ dealer o log k n) × (xs ++ new_seats z o log k n ≡ new_seats z o log 0 m)

-- the same after one more
pub goes_on : (z : TableId) (o : Opening) (log : List Entry) (k m : ℕ) (xs : List Known) (v : SeatView) → k < m → Goes z o log k m xs v → Goes z o log (k + 1) m (xs ++ known_in z (dealt_view v) ∷ []) (rest_view v)
goes_on z o log k m xs v l (zero, e, is, all) = absurd (omega arith)
goes_on z o log k m xs v l (suc n, e, is, all) =
    let up : suc k ≡ k + 1 = omega arith in let less : suc n * 2 ^ 57 - 2 ^ 57 ≡ n * 2 ^ 57 = omega arith in (
      n,
      omega arith,
      ap rest_view is ∙ λ i. new_view o log (numbers (up i) n) 0 (less i),
      append_assoc xs (known_in z (dealt_view v) ∷ []) (new_seats z o log (k + 1) n) ∙ (ap (λ (t : SeatView × ℕ). xs ++ known_in z (dealt_view t.0) ∷ new_seats z o log t.1 n) (λ i. (is i, sym up i)) ∙ all),
    )
