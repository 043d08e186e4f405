-- Locks with all their seats, and what their end tells where no call was made.
use Rattle.std.proofs.Common.{◌≡◌, ℕ, zero, suc, ◌+◌, ◌<◌, ◌≤◌, ◌==◌, ◌||◌, Bool, true, false, if◌then◌else◌, List, [], ◌∷◌, ◌++◌, map, length, refl, ap, sym, ◌∙◌, subst, arith, append_assoc, eq-eqb}
use mathlib.Core.List.{map-append}
use mathlib.Core.Logic.{dite}
use native.Mathlib.Decide.{ℕ_discrete}
use Rattle.shared_pool.proofs.Common.{TableId, Entry, Opening, calls_by, owns, Since, AllBelow, opened, arena_of, IsBehind, Lock, Known, AllAt, AllFit, Covers, all_numbers, new_seats, ArenaState, behind_still}
use Rattle.shared_pool.specs.Begun.{IsBegun, AllBegun}
use Rattle.shared_pool.specs.Passes.{first_calls}
use Rattle.shared_pool.specs.Rows.{lines}
use Rattle.shared_pool.proofs.Closings.{below_since}

front_begun : (seats : ℕ) (xs : List (Lock × List Known)) (x : Lock × List Known) → AllBegun seats (xs ++ x ∷ []) → AllBegun seats xs × IsBegun seats x
front_begun seats [] x h = (tt, h.0)
front_begun seats (y ∷ ys) x h = let r = front_begun seats ys x h.1 in ((h.0, r.0), r.1)

pub last_begun : {B : Type 0} (xs ys : List B) (x : B) (f : B → Lock × List Known) (seats : ℕ) → xs ≡ ys ++ x ∷ [] → AllBegun seats (map f xs) → AllBegun seats (map f ys) × IsBegun seats (f x)
last_begun xs ys x f seats is h = front_begun seats (map f ys) (f x) (subst (AllBegun seats) (ap (map f) is ∙ map-append f ys (x ∷ [])) h)

more_begun : (seats : ℕ) (xs : List (Lock × List Known)) (x : Lock × List Known) → AllBegun seats xs → IsBegun seats x → AllBegun seats (xs ++ x ∷ [])
more_begun seats [] x h k = (k, tt)
more_begun seats (y ∷ ys) x h k = (h.0, more_begun seats ys x h.1 k)

pub begun_more : {B : Type 0} (xs ys : List B) (x : B) (f : B → Lock × List Known) (seats : ℕ) → ys ≡ xs ++ x ∷ [] → AllBegun seats (map f xs) → IsBegun seats (f x) → AllBegun seats (map f ys)
begun_more xs ys x f seats is h k = subst (AllBegun seats) (sym (ap (map f) is ∙ map-append f xs (x ∷ []))) (more_begun seats (map f xs) (f x) h k)

pub moved : {B : Type 0} (xs ys : List B) (x : B) (op : B → Opening) (back : List Opening) (t : Opening) → xs ≡ ys ++ x ∷ [] → t ≡ op x → map op ys ++ t ∷ back ≡ map op xs ++ back
moved xs ys x op back t is e = ap (λ z. map op ys ++ z ∷ back) e ∙ (sym (append_assoc (map op ys) (op x ∷ []) back) ∙ ap (λ l. l ++ back) (sym (ap (map op) is ∙ map-append op ys (x ∷ []))))

new_at : (z : TableId) (o : Opening) (k n : ℕ) → AllAt z (new_seats z o [] k n)
new_at z o k zero = tt
new_at z o k (suc n) = (refl, new_at z o (suc k) n)

either_one : (k i : ℕ) (more : Bool) → k ≤ i → (suc k ≤ i → more ≡ true) → (k == i) || more ≡ true
either_one k i more l f = dite (ℕ_discrete k i) (λ e. ap (λ b. b || more) (eq-eqb k i e)) (λ ne. ap (λ m. (k == i) || m) (f (omega (arith, l, ne))) ∙ or_true (k == i))
  where
    or_true : (b : Bool) → b || true ≡ true
    or_true true = refl
    or_true false = refl

new_owns : (z : TableId) (o : Opening) (k n i : ℕ) → k ≤ i → i < k + n → owns i (all_numbers (new_seats z o [] k n)) ≡ true
new_owns z o k zero i l h = absurd (omega arith)
new_owns z o k (suc n) i l h = either_one k i (owns i (all_numbers (new_seats z o [] (suc k) n))) l (λ m. new_owns z o (suc k) n i m (omega arith))

new_some : (z : TableId) (o : Opening) (k n : ℕ) → 1 ≤ n → 0 < length (new_seats z o [] k n)
new_some z o k zero l = absurd (omega arith)
new_some z o k (suc n) l = omega arith

new_seen : (z : TableId) (o : Opening) (k n i : ℕ) (log : List Entry) → k ≤ i → i < k + n → AllFit log (new_seats z o [] k n) → calls_by i log ≡ []
new_seen z o k zero i log l h s = absurd (omega arith)
new_seen z o k (suc n) i log l h s = dite (ℕ_discrete k i) (λ e. subst (λ j. calls_by j log ≡ []) e (ap first_calls s.0.mine)) (λ ne. new_seen z o (suc k) n i log (omega (arith, l, ne)) (omega arith) s.1)

pub begun_some : (seats : ℕ) (s : Lock × List Known) → 1 ≤ seats → IsBegun seats s → 0 < length s.1
begun_some seats s l b = subst (λ ps. 0 < length ps) (sym b.dealt) (new_some s.0.id s.0.opening 0 seats l)

pub begun_at : (seats : ℕ) (s : Lock × List Known) → IsBegun seats s → AllAt s.0.id s.1
begun_at seats s b = subst (AllAt s.0.id) (sym b.dealt) (new_at s.0.id s.0.opening 0 seats)

pub begun_covers : (seats : ℕ) (s : Lock × List Known) → IsBegun seats s → Covers s.0.seats s.1
begun_covers seats s b i l = subst (λ ps. owns i (all_numbers ps) ≡ true) (sym b.dealt) (new_owns s.0.id s.0.opening 0 seats i (omega arith) (omega (arith, l, b.count)))

nothing : (n : ℕ) (log : List Entry) → AllBelow n log → ((i : ℕ) → i < n → calls_by i log ≡ []) → log ≡ []
nothing n [] b h = refl
nothing n (e ∷ es) b h =
    let one : e ∷ calls_by e.seat es ≡ [] = sym (ap (λ (t : Bool). if t then e ∷ calls_by e.seat es else calls_by e.seat es) (eq-eqb e.seat e.seat refl)) ∙ h e.seat b.0 in absurd (cc one)

-- where no call was made the state is the opening one
pub as_was : (seats : ℕ) (s : Lock × List Known) (o : Opening) (now : ArenaState) (log : List Entry) → IsBegun seats s → Since s.0.seats s.0.start log → AllFit log s.1 → o ≡ s.0.opening → IsBehind o log now → opened now ≡ s.0.opening
as_was seats s o now log b since seen opening legal =
    let below : AllBelow seats log = subst (λ n. AllBelow n log) b.count (below_since s.0.seats s.0.start log b.fresh since) in
    let none : log ≡ [] = nothing seats log below (λ i l. new_seen s.0.id s.0.opening 0 seats i log (omega arith) (omega (arith, l)) (subst (λ ps. AllFit log ps) b.dealt seen)) in
    behind_still o now (subst (λ l. IsBehind o l now) none legal) ∙ opening

pub begun_head : {B : Type 0} (xs ys : List B) (x : B) (f : B → Lock × List Known) (seats : ℕ) → xs ≡ x ∷ ys → AllBegun seats (map f xs) → IsBegun seats (f x) × AllBegun seats (map f ys)
begun_head xs ys x f seats whole h = subst (λ l. AllBegun seats (map f l)) whole h

pub lines_pushed : {D L : Type 0} (ds more : List D) (d : D) (ls next : List L) (l : L) (f : D → List Known) (info : L → Lock) (seats : ℕ) → more ≡ ds ++ d ∷ [] → next ≡ ls ++ l ∷ [] → map f ds ≡ lines 0 seats (map info ls) → f d ≡ new_seats (info l).id (info l).opening [] 0 seats
    → map f more ≡ lines 0 seats (map info next)
lines_pushed ds more d ls next l f info seats a b e one =
    ap (map f) a ∙ (map-append f ds (d ∷ []) ∙ (ap (λ (t : List (List Known) × List Known). t.0 ++ t.1 ∷ []) (λ i. (e i, one i))
    ∙ (sym (map-append (λ (z : Lock). new_seats z.id z.opening [] 0 seats) (map info ls) (info l ∷ [])) ∙ ap (lines 0 seats) (sym (ap (map info) b ∙ map-append info ls (l ∷ []))))))

pub back_whole : {B : Type 0} (xs ys : List B) (x : B) (op : B → Opening) (front : List Opening) → xs ≡ x ∷ ys → front ++ op x ∷ map op ys ≡ front ++ map op xs
back_whole xs ys x op front whole = ap (λ l. front ++ map op l) (sym whole)

map_twice : {A B C : Type 0} (f : B → C) (g : A → B) (xs : List A) → map f (map g xs) ≡ map (λ x. f (g x)) xs
map_twice f g [] = refl
map_twice f g (x ∷ xs) = ap (λ ys. f (g x) ∷ ys) (map_twice f g xs)

map_self : (xs : List ArenaState) → map (λ a. arena_of (opened a)) xs ≡ xs
map_self [] = refl
map_self (x ∷ xs) = ap (λ l. x ∷ l) (map_self xs)

-- arenas that are the same when opened are the same
pub same_arenas : (xs ys : List ArenaState) → map (λ a. opened a) xs ≡ map (λ a. opened a) ys → xs ≡ ys
same_arenas xs ys e = sym (map_self xs) ∙ (sym (map_twice arena_of (λ a. opened a) xs) ∙ (ap (map arena_of) e ∙ (map_twice arena_of (λ a. opened a) ys ∙ map_self ys)))
