-- The value at the end, and the seats that are joined for it.
use Rattle.std.proofs.Common.{◌≡◌, ℕ, ◌≤◌, ◌==◌, ◌||◌, Bool, true, false, List, [], ◌∷◌, ◌++◌, length, refl, ap, sym, ◌∙◌, subst, arith, append_assoc, Option, Some, None, get_or}
use Rattle.std.proofs.lemmas.Bool.{false≢true}
use Rattle.std.proofs.lemmas.List.{append-nil}
use mathlib.Core.Logic.{dite}
use mathlib.Core.List.{IsPrefix}
use mathlib.Core.Option.{some, some-injective}
use native.Mathlib.Decide.{ℕ_discrete}
use lib.ListN.{get_elem?}
use Rattle.atomic_table.specs.Table.{Final, Seen}
use Rattle.atomic_table.specs.Seated.{TableId}
use Rattle.heap_model.specs.declared.call.Entry.{Entry}
use Rattle.arena_lock.specs.declared.opening.Opening.{Opening}
use Rattle.arena_lock.specs.declared.view.SeatView.{SeatView}
use Rattle.arena_lock.specs.Journal.{calls_by, owns, Each, calls_of, Since}
use Rattle.arena_lock.specs.Legality.{IsLegal}
use Rattle.arena_lock.specs.Tickets.{in_turn, IsTicketed, IsIdle}
use Rattle.arena_lock.specs.TicketSteps.{joined_view}
use Rattle.atomic_table.specs.declared.badge.Badge.{Badge}
use Rattle.arena_lock.specs.Known.{Lock, Known, view_or, known_in, known_of, after_join, AllAt, all_numbers, Covers, AllFit, HasNumbers, KnowsAll}
use Rattle.arena_lock.proofs.Prefixes.{prefix_self, prefix_trans}
use Rattle.arena_lock.proofs.Entries.{each_map, each_owned, each_front, each_back, same_calls, each_same, split_calls}

-- which numbers seats own

or_assoc : (a b c : Bool) → a || (b || c) ≡ (a || b) || c
or_assoc true b c = refl
or_assoc false b c = refl

owns-append : (n : ℕ) (xs ys : List ℕ) → owns n (xs ++ ys) ≡ owns n xs || owns n ys
owns-append n [] ys = refl
owns-append n (m ∷ ms) ys = ap (λ b. (m == n) || b) (owns-append n ms ys) ∙ or_assoc (m == n) (owns n ms) (owns n ys)

or_left : (a b c : Bool) → b ≡ true → (a || b) || c ≡ true
or_left true b c e = refl
or_left false b c e = ap (λ (z : Bool). z || c) e

-- a seat that has the numbers of p owns those that p owns
owns_infix : (n : ℕ) (v p : Known) → HasNumbers v p → owns n p.numbers ≡ true → owns n v.numbers ≡ true
owns_infix n v p i e = ap (owns n) (sym i.2) ∙ (owns-append n (i.0 ++ p.numbers) i.1 ∙ (ap (λ b. b || owns n i.1) (owns-append n i.0 p.numbers) ∙ or_left (owns n i.0) (owns n p.numbers) (owns n i.1) e))

or_case : (a b c : Bool) → (a ≡ true → c ≡ true) → (b ≡ true → c ≡ true) → a || b ≡ true → c ≡ true
or_case true b c f g e = f refl
or_case false b c f g e = g e

-- a seat that knows all that these did owns every number of theirs
owns_all : (n : ℕ) (v : Known) (ps : List Known) → KnowsAll v ps → owns n (all_numbers ps) ≡ true → owns n v.numbers ≡ true
owns_all n v [] t e = absurd (false≢true e)
owns_all n v (p ∷ ps) t e = or_case (owns n p.numbers) (owns n (all_numbers ps)) (owns n v.numbers) (owns_infix n v p t.0.2) (owns_all n v ps t.1) (sym (owns-append n p.numbers (all_numbers ps)) ∙ e)

-- where two journals have the same calls of v's numbers, they have those of p
same_numbers : (v p : Known) (log log' : List Entry) → HasNumbers v p → Each (λ n. calls_by n log ≡ calls_by n log') v.numbers → calls_of log p.numbers ≡ calls_of log' p.numbers
same_numbers v p log log' i h = let P : ℕ → Type 0 = λ n. calls_by n log ≡ calls_by n log' in
    same_calls log log' p.numbers (each_back P i.0 p.numbers (each_front P (i.0 ++ p.numbers) i.1 (subst (Each P) (sym i.2) h)))

-- at the end each of the seats fits, where the one that knows all of them does
all_fit : (log : List Entry) (v : Known) (ps : List Known) → IsPrefix v.seen log → v.known ≤ length log → Each (λ n. calls_by n log ≡ calls_by n v.seen) v.numbers → KnowsAll v ps → AllFit log ps
all_fit log v [] s k e t = tt
all_fit log v (p ∷ ps) s k e t = (record { seen = prefix_trans p.seen v.seen log t.0.0 s; mine = same_numbers v p log v.seen t.0.2 e ∙ t.0.2.3; known = omega (arith, k, t.0.1) }, all_fit log v ps s k e t.1)

-- what is promised of the value and of the seats at the end
abbrev pub Ended : {T : Type 0} → (T → Opening) → (T → List Entry) → Opening → List Entry → ℕ → List Known → T → Type 0
Ended op jr o start seats ps x = (op x ≡ o) × IsLegal (op x) (jr x) × Since seats start (jr x) × AllFit (jr x) ps

-- the value at the end, where the seat owns all numbers
closes : {T : Type 0} (op : T → Opening) (jr : T → List Entry) (o : Opening) (start : List Entry) (seats id : ℕ) (z : TableId) (v : SeatView) (ws : List ℕ) (xs : List (Option T)) (ps : List Known)
    → Final (Seen (IsTicketed op jr o start seats) id v) ws xs → IsIdle v → KnowsAll (known_in z v) ps → Covers seats ps
    → (x : T) × (get_elem? xs 0 ≡ some (Some x)) × Ended op jr o start seats ps x
closes op jr o start seats id z v ws xs ps f idle told all =
    let s = f.0 in let r = f.1.0 in let at = f.1.1 in let k = (r.each_seat id v at idle.live).past in let p = known_in z v in
    let home : r.home ≡ 1 = dite (ℕ_discrete r.home 0)
    (λ out. let h = r.held out in
    let owned = each_owned _ h.2.0 v.past.numbers (owns_all h.2.0 p ps told (all h.2.0 h.2.1)) k.owned in
    let here : r.holder (get_or s.words 1 0) ≡ id = sym h.2.2 ∙ owned.1 in
    absurd (false≢true (sym (ap in_turn idle.idle) ∙ (ap (λ (y : SeatView). in_turn y.standing) (some-injective _ _ (sym at ∙ (ap (get_elem? s.views) (sym here) ∙ h.0.1))) ∙ h.0.3))))
    (λ no. omega (arith, r.home_is)) in
    let t = r.free home in let x = t.0 in (
      x,
      f.4 0 (Some x) t.1,
      (
        t.2,
        subst (λ (y : Opening × List Entry). IsLegal y.0 y.1) {y = (op x, jr x)} (λ i. (sym t.2 i, sym t.3 i)) r.legal,
        subst (Since seats start) {y = jr x} (sym t.3) r.since,
        subst (λ l. AllFit l ps) {y = jr x} (sym t.3) (all_fit r.log p ps k.seen k.known (each_map _ (λ n. calls_by n r.log ≡ calls_by n v.past.seen) (λ n t. t.0) v.past.numbers k.owned) told),
      ),
    )

-- after a join the numbers of both seats have just the entries that they had
pub told_calls : (z v w : SeatView) (t u : TableId) (p q : Known) → known_in t v ≡ p → known_in u w ≡ q → z ≡ joined_view v w → z.past.mine ≡ calls_of z.past.seen z.past.numbers → v.past.mine ≡ calls_of v.past.seen v.past.numbers → w.past.mine ≡ calls_of w.past.seen w.past.numbers
    → (calls_of z.past.seen p.numbers ≡ p.mine) × (calls_of z.past.seen q.numbers ≡ q.mine)
told_calls z v w t u p q vp wq is agrees mine mine' =
    let all : calls_of v.past.seen v.past.numbers ++ calls_of w.past.seen w.past.numbers ≡ calls_of z.past.seen (v.past.numbers ++ w.past.numbers) = (λ i. sym mine i ++ sym mine' i) ∙ (sym (ap (λ y. y.past.mine) is) ∙ (agrees ∙ ap (λ (l : List ℕ). calls_of z.past.seen l) (ap (λ y. y.past.numbers) is))) in
    let both = split_calls z.past.seen v.past.seen w.past.seen v.past.numbers w.past.numbers all in
    (ap (λ (l : List ℕ). calls_of z.past.seen l) (sym (ap (λ y. y.numbers) vp)) ∙ (both.0 ∙ (sym mine ∙ ap (λ y. y.mine) vp)), ap (λ (l : List ℕ). calls_of z.past.seen l) (sym (ap (λ y. y.numbers) wq)) ∙ (both.1 ∙ (sym mine' ∙ ap (λ y. y.mine) wq)))

-- what was known of some seats is known after a join
told_more : (v w u : Known) (ps : List Known) → u ≡ after_join v w → IsPrefix v.seen u.seen → calls_of u.seen v.numbers ≡ calls_of v.seen v.numbers → KnowsAll v ps → KnowsAll u ps
told_more v w u [] is s e t = tt
told_more v w u (p ∷ ps) is s e t = let i = t.0.2 in (
  (
    prefix_trans p.seen v.seen u.seen t.0.0 s,
    subst (λ y. p.known ≤ y.known) (sym is) (omega (arith, t.0.1)),
    (i.0, i.1 ++ w.numbers, sym (append_assoc (i.0 ++ p.numbers) i.1 w.numbers) ∙ (ap (λ l. l ++ w.numbers) i.2 ∙ sym (ap (λ y. y.numbers) is)), same_numbers v p u.seen v.seen i (each_same u.seen v.seen v.numbers e) ∙ i.3),
  ),
  told_more v w u ps is s e t.1,
)

-- after the join with w the seat knows all that w did too
pub told_both : (v w u : Known) (ps : List Known) → u ≡ after_join v w → IsPrefix v.seen u.seen × IsPrefix w.seen u.seen → (calls_of u.seen v.numbers ≡ v.mine) × (calls_of u.seen w.numbers ≡ w.mine) → v.mine ≡ calls_of v.seen v.numbers → KnowsAll v ps → KnowsAll u (w ∷ ps)
told_both v w u ps is s e mine t = (
  (s.1, subst (λ y. w.known ≤ y.known) (sym is) (omega arith), (v.numbers, [], append-nil (v.numbers ++ w.numbers) ∙ sym (ap (λ y. y.numbers) is), e.1)),
  told_more v w u ps is s.0 (e.0 ∙ mine) t,
)

-- a seat knows all that it did itself
pub told_self : (v : Known) → v.mine ≡ calls_of v.seen v.numbers → KnowsAll v (v ∷ [])
told_self v mine = ((prefix_self v.seen, omega arith, ([], [], append-nil v.numbers, sym mine)), tt)

-- all seats of a list are of the lock: those of its beginning, those of its end, and its last one
at_front : (z : TableId) (xs ys : List Known) → AllAt z (xs ++ ys) → AllAt z xs
at_front z [] ys h = tt
at_front z (x ∷ xs) ys h = (h.0, at_front z xs ys h.1)

at_back : (z : TableId) (xs ys : List Known) → AllAt z (xs ++ ys) → AllAt z ys
at_back z [] ys h = h
at_back z (x ∷ xs) ys h = at_back z xs ys h.1

pub at_pop : (z : TableId) (xs ys : List Known) (x : Known) → xs ≡ ys ++ x ∷ [] → AllAt z xs → (x.lock ≡ z) × AllAt z ys
at_pop z xs ys x e h = let all = subst (AllAt z) e h in ((at_back z ys (x ∷ []) all).0, at_front z ys (x ∷ []) all)

pub back_one : {A : Type 0} (xs ys : List A) (x : A) (l done : List A) → xs ≡ ys ++ x ∷ [] → xs ++ done ≡ l → ys ++ x ∷ done ≡ l
back_one xs ys x l done e h = sym (append_assoc ys (x ∷ []) done) ∙ (ap (λ z. z ++ done) (sym e) ∙ h)

abbrev value_or : {T : Type 0} → T → mathlib.Core.Option.Option (Option T) → T
value_or d (some (Some x)) = x
value_or d _ = d

abbrev is_some_some : {T : Type 0} → mathlib.Core.Option.Option (Option T) → Bool
is_some_some (some (Some x)) = true
is_some_some _ = false

module _ {T : Type 0} (op : T → Opening) (jr : T → List Entry) (o : Opening) (start : List Entry) (seats id : ℕ) (v : SeatView) (ws : List ℕ) (xs : List (Option T)) (ps : List Known) (b : Badge SeatView) (q : Known) (z : TableId) (l : Lock)
    (f : Final (Seen (IsTicketed op jr o start seats) id v) ws xs) (one : b.views ≡ v ∷ []) (idle : IsIdle (view_or b.views)) (badge_is : known_of b ≡ q) (lock_is : record { id = z; opening = o; start = start; seats = seats } ≡ l)
    (told : KnowsAll q ps) (all : Covers l.seats ps) where
  whole : (x : T) × (get_elem? xs 0 ≡ some (Some x)) × Ended op jr o start seats ps x
  whole = closes op jr o start seats id b.table_id v ws xs ps f (subst IsIdle (ap view_or one) idle) (subst (λ p. KnowsAll p ps) (sym badge_is ∙ ap (λ vs. known_in b.table_id (view_or vs)) one) told) (subst (λ n. Covers n ps) (sym (ap (λ y. y.seats) lock_is)) all)

  pub ended : (y : T) → get_elem? xs 0 ≡ some (Some y) → Ended op jr l.opening l.start l.seats ps y
  ended y e = subst (λ (t : T × Lock). Ended op jr t.1.opening t.1.start t.1.seats ps t.0) (λ i. (ap (value_or y) (sym whole.1 ∙ e) i, lock_is i)) whole.2

  pub never_none : get_elem? xs 0 ≡ some None → ⊥
  never_none e = false≢true (sym (ap is_some_some (sym whole.1 ∙ e)))
