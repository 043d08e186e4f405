-- Where a seat may stand, as the words, the journal and the place of the value change.
use Rattle.std.proofs.Common.{◌≡◌, ◌≢◌, ℕ, ◌+◌, ◌<◌, ◌≤◌, List, ap, sym, ◌∙◌, arith}
use mathlib.Core.Logic.{dite}
use native.Mathlib.Decide.{ℕ_discrete}
use Rattle.heap_model.specs.declared.call.Entry.{Entry}
use Rattle.arena_lock.specs.declared.view.Standing.{Standing}
use Rattle.arena_lock.specs.declared.view.Standing.TheVariants.{Idle, Looked, Waits, InTurn}
use Rattle.arena_lock.specs.Tickets.{MayStand}

above_it : (a b : ℕ) → a ≤ b → b ≢ a → a + 1 ≤ b
above_it a b l ne = dite (ℕ_discrete b a) (λ f. absurd (ne f)) (λ _. omega arith)

-- more tickets may be drawn, and the value may go out, where each ticket that was drawn keeps its holder
pub stands_more : (log : List Entry) (next next' served home home' : ℕ) (holder holder' : ℕ → ℕ) (j : ℕ) (s : Standing) → next ≤ next' → (home ≡ 0 → home' ≡ 0) → ((t : ℕ) → t < next → holder' t ≡ holder t)
    → MayStand log next served home holder j s → MayStand log next' served home' holder' j s
stands_more log next next' served home home' holder holder' j Idle up out same h = tt
stands_more log next next' served home home' holder holder' j (Looked at) up out same h = h
stands_more log next next' served home home' holder holder' j (Waits t) up out same h = (h.0, omega (arith, h.1), same t h.1 ∙ h.2)
stands_more log next next' served home home' holder holder' j (InTurn t base) up out same h = (h.0, omega (arith, h.1), same t h.1 ∙ h.2, out h.3, h.4)

-- the journal may grow where another seat has the turn
pub stands_beside : (log log' : List Entry) (next served home : ℕ) (holder : ℕ → ℕ) (j : ℕ) (s : Standing) → holder served ≢ j → MayStand log next served home holder j s → MayStand log' next served home holder j s
stands_beside log log' next served home holder j Idle other h = tt
stands_beside log log' next served home holder j (Looked at) other h = h
stands_beside log log' next served home holder j (Waits t) other h = h
stands_beside log log' next served home holder j (InTurn t base) other h = absurd (other (ap holder (sym h.0) ∙ h.2))

-- the next ticket may be served where another seat had the one before
pub stands_passed : (log : List Entry) (next served home : ℕ) (holder : ℕ → ℕ) (j : ℕ) (s : Standing) → holder served ≢ j → MayStand log next served home holder j s → MayStand log next (served + 1) 1 holder j s
stands_passed log next served home holder j Idle other h = tt
stands_passed log next served home holder j (Looked at) other h = omega (arith, h)
stands_passed log next served home holder j (Waits t) other h = (above_it served t h.0 (λ e. other (sym (ap holder e) ∙ h.2)), h.1, h.2)
stands_passed log next served home holder j (InTurn t base) other h = absurd (other (ap holder (sym h.0) ∙ h.2))
