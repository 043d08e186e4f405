-- The counts of a line's stores, and lists of events that end quiet.
use Rattle.std.proofs.Common.{◌≡◌, ◌==◌, ◌&&◌, ◌||◌, ℕ, ◌+◌, ◌/◌, ◌≤◌, Bool, true, false, cond, List, [], ◌∷◌, ◌++◌, sym, ◌∙◌, ap, refl, ⊎_elim, arith, eqb}
use Rattle.std.proofs.lemmas.Bool.{cases_Bool, eqb-true, eq-eqb, or_parts, true_from_ne_false, or_left, or_right, or_cases, and_parts, and_from}
use Rattle.std.proofs.lemmas.List.{append-nil}
use Rattle.pmem_lines.specs.declared.event.Event.{Event}
use Rattle.pmem_lines.specs.declared.event.Event.TheVariants.{Store, Flush, Fence}
use Rattle.pmem_lines.specs.Events.{is_fenced, is_flushed, all_of, done_of, IsQuiet}

-- the stores of two lists are counted one after another
pub all_of-append : (line : ℕ) (e f : List Event) → all_of line (e ++ f) ≡ all_of line e + all_of line f
all_of-append line [] f = grind arith
all_of-append line (Store at value ∷ e) f = omega (arith, all_of-append line e f)
all_of-append line (Flush l ∷ e) f = all_of-append line e f
all_of-append line (Fence ∷ e) f = all_of-append line e f

-- no more stores are done than there are
pub done_of-all_of : (line : ℕ) (events : List Event) → done_of line events ≤ all_of line events
done_of-all_of line [] = omega arith
done_of-all_of line (Store at value ∷ events) =
    let rest = done_of-all_of line events in
    elim (eqb (at / 64) line) as (λ b. cond (b && is_flushed line events) 1 0 + done_of line events ≤ cond b 1 0 + all_of line events)
    [ true ↦ elim (is_flushed line events) as (λ b. cond b 1 0 + done_of line events ≤ 1 + all_of line events) [ true ↦ omega arith | false ↦ omega arith ] | false ↦ omega arith ]
done_of-all_of line (Flush l ∷ events) = done_of-all_of line events
done_of-all_of line (Fence ∷ events) = done_of-all_of line events

-- there is a fence in two lists where there is one in either
pub is_fenced-append : (e f : List Event) → is_fenced (e ++ f) ≡ is_fenced e || is_fenced f
is_fenced-append [] f = refl
is_fenced-append (Store at value ∷ e) f = is_fenced-append e f
is_fenced-append (Flush l ∷ e) f = is_fenced-append e f
is_fenced-append (Fence ∷ e) f = refl

-- a line that is flushed stays so, whatever follows
pub is_flushed-append : (line : ℕ) (e f : List Event) → is_flushed line e ≡ true → is_flushed line (e ++ f) ≡ true
is_flushed-append line [] f h = cc
is_flushed-append line (Store at value ∷ e) f h = is_flushed-append line e f h
is_flushed-append line (Flush l ∷ e) f h =
    ⊎_elim
    (λ here. let parts = and_parts (l == line) (is_fenced e) here in
    or_left (l == line && is_fenced (e ++ f)) (is_flushed line (e ++ f)) (and_from (l == line) (is_fenced (e ++ f)) parts.0 (is_fenced-append e f ∙ or_left (is_fenced e) (is_fenced f) parts.1)))
    (λ later. or_right (l == line && is_fenced (e ++ f)) (is_flushed line (e ++ f)) (is_flushed-append line e f later))
    (or_cases (l == line && is_fenced e) (is_flushed line e) h)
is_flushed-append line (Fence ∷ e) f h = is_flushed-append line e f h

-- two quiet lists are quiet, one after the other
pub IsQuiet-append : (e f : List Event) → IsQuiet e → IsQuiet f → IsQuiet (e ++ f)
IsQuiet-append [] f p q = q
IsQuiet-append (Store at value ∷ e) f p q = (is_flushed-append (at / 64) e f p.0, IsQuiet-append e f p.1 q)
IsQuiet-append (Flush l ∷ e) f p q = IsQuiet-append e f p q
IsQuiet-append (Fence ∷ e) f p q = IsQuiet-append e f p q

-- where e is quiet, all of its stores are done, whatever follows
pub done_of-append : (line : ℕ) (e f : List Event) → IsQuiet e → done_of line (e ++ f) ≡ all_of line e + done_of line f
done_of-append line [] f q = grind arith
done_of-append line (Store at value ∷ e) f q =
    let rest = done_of-append line e f q.1 in
    let flushed : is_flushed (at / 64) (e ++ f) ≡ true = is_flushed-append (at / 64) e f q.0 in
    let one : ◌≡◌ {A = ℕ} (cond (eqb (at / 64) line && is_flushed line (e ++ f)) 1 0) (cond (eqb (at / 64) line) 1 0) = at_line (at / 64) line (λ l. is_flushed l (e ++ f)) flushed in
    omega (arith, rest, one)
  where
    at_line : (m line : ℕ) (f : ℕ → Bool) → f m ≡ true → ◌≡◌ {A = ℕ} (cond (eqb m line && f line) 1 0) (cond (eqb m line) 1 0)
    at_line m line f h = ⊎_elim
        (λ (same : eqb m line ≡ true). rw (same, ← eqb-true m line same, h))
        (λ (other : eqb m line ≡ false). rw other)
        (cases_Bool (eqb m line))
done_of-append line (Flush l ∷ e) f q = done_of-append line e f q
done_of-append line (Fence ∷ e) f q = done_of-append line e f q

-- where no flush of a line is fenced, none of its stores is done
pub done_of_unflushed : (line : ℕ) (e : List Event) → is_flushed line e ≡ false → done_of line e ≡ 0
done_of_unflushed line [] h = refl
done_of_unflushed line (Store at value ∷ e) h = rw h (skip (eqb (at / 64) line) (done_of line e) (done_of_unflushed line e h))
  where
    skip : (b : Bool) (n : ℕ) → n ≡ 0 → cond (b && false) 1 0 + n ≡ 0
    skip b n h = elim b as (λ b. cond (b && false) 1 0 + n ≡ 0) [ true ↦ omega arith | false ↦ omega arith ]
done_of_unflushed line (Flush l ∷ e) h = done_of_unflushed line e (or_parts (l == line && is_fenced e) (is_flushed line e) h).1
done_of_unflushed line (Fence ∷ e) h = done_of_unflushed line e h

-- in a quiet list all stores of a line are done
pub all_done : (events : List Event) → IsQuiet events → (line : ℕ) → done_of line events ≡ all_of line events
all_done events quiet line = ap (λ (es : List Event). done_of line es) (sym (append-nil events)) ∙ done_of-append line events [] quiet ∙ omega arith

-- a list where all stores of each line are done is quiet
pub quiet_from_done : (events : List Event) → ((line : ℕ) → done_of line events ≡ all_of line events) → IsQuiet events
quiet_from_done [] h = tt
quiet_from_done (Store at value ∷ events) h = (
  true_from_ne_false (is_flushed (at / 64) events) (λ never. absurd (omega (arith, h (at / 64), at_line never, done_of-all_of (at / 64) events))),
  quiet_from_done events (λ line. rest line (eqb (at / 64) line) (is_flushed line events) (h line)),
)
  where
    at_line : is_flushed (at / 64) events ≡ false →
        (cond (eqb (at / 64) (at / 64) && is_flushed (at / 64) events) 1 0 + done_of (at / 64) events ≡ done_of (at / 64) events) × (cond (eqb (at / 64) (at / 64)) 1 0 + all_of (at / 64) events ≡ 1 + all_of (at / 64) events)
    at_line never = rw (never, eq-eqb (at / 64) (at / 64) refl) (omega arith, omega arith)

    rest : (line : ℕ) (b flushed : Bool) → cond (b && flushed) 1 0 + done_of line events ≡ cond b 1 0 + all_of line events → done_of line events ≡ all_of line events
    rest line true true h = omega arith
    rest line true false h = omega (arith, done_of-all_of line events)
    rest line false f h = omega arith
quiet_from_done (Flush l ∷ events) h = quiet_from_done events h
quiet_from_done (Fence ∷ events) h = quiet_from_done events h
