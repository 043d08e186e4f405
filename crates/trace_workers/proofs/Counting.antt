-- A journal of which every thread has just what it asks has no more entries than the trace has calls.
use Rattle.std.proofs.Common.{◌≡◌, ◌≢◌, ℕ, zero, suc, ◌+◌, ◌≤◌, ◌<◌, ◌==◌, ◌&&◌, Bool, true, false, if◌then◌else◌, List, [], ◌∷◌, length, refl, ap, sym, ◌∙◌, arith, eq-eqb, ne_eqb, ⊎_elim}
use Rattle.trace_workers.proofs.Common.{length-map, cases_lt, cases_eq, Call, Entry, calls_by, AllBelow, TraceCall}
use Rattle.trace_runs.specs.Answers.{asked, calls_in}

-- the sum over the numbers below n
abbrev sum_below : ℕ → (ℕ → ℕ) → ℕ
sum_below zero f = 0
sum_below (suc n) f = sum_below n f + f n

abbrev one_if : Bool → ℕ
one_if true = 1
one_if false = 0

sum_same : (n : ℕ) (f g : ℕ → ℕ) → ((t : ℕ) → f t ≡ g t) → sum_below n f ≡ sum_below n g
sum_same zero f g same = refl
sum_same (suc n) f g same = let rest = sum_same n f g same in let here = same n in omega (arith, rest, here)

sum_add : (n : ℕ) (f g h : ℕ → ℕ) → ((t : ℕ) → h t ≡ f t + g t) → sum_below n h ≡ sum_below n f + sum_below n g
sum_add zero f g h add = refl
sum_add (suc n) f g h add = let rest = sum_add n f g h add in let here = add n in omega (arith, rest, here)

sum_le : (n : ℕ) (f g h : ℕ → ℕ) → ((t : ℕ) → h t ≤ f t + g t) → sum_below n h ≤ sum_below n f + sum_below n g
sum_le zero f g h add = omega arith
sum_le (suc n) f g h add = let rest = sum_le n f g h add in let here = add n in omega (arith, rest, here)

-- one number is met at most once, and once where it is below n
none_above : (s n : ℕ) → n ≤ s → sum_below n (λ t. one_if (s == t)) ≡ 0
none_above s zero le = refl
none_above s (suc n) le = let rest = none_above s n (omega arith) in let here = ap one_if (ne_eqb s n (λ e. absurd (omega (arith, e, le)))) in omega (arith, rest, here)

once_below : (s n : ℕ) → s < n → sum_below n (λ t. one_if (s == t)) ≡ 1
once_below s zero less = absurd (omega arith)
once_below s (suc n) less = ⊎_elim
    (λ (same : s ≡ n). let rest = none_above s n (omega (arith, same)) in let here = ap one_if (eq-eqb s n same) in omega (arith, rest, here))
    (λ (differ : s ≢ n). ⊎_elim
    (λ (below : s < n). let rest = once_below s n below in let here = ap one_if (ne_eqb s n differ) in omega (arith, rest, here))
    (λ (above : n ≤ s). absurd (differ (let e : s ≡ n = omega (arith, above, less) in e)))
    (cases_lt s n))
    (cases_eq s n)

once : (s n : ℕ) → sum_below n (λ t. one_if (s == t)) ≤ 1
once s n = ⊎_elim
    (λ (below : s < n). let e = once_below s n below in omega (arith, e))
    (λ (above : n ≤ s). let e = none_above s n above in omega (arith, e))
    (cases_lt s n)

-- each entry is of one thread
more_called : (b : Bool) (e : Entry) (es : List Entry) → length (if b then e ∷ es else es) ≡ one_if b + length es
more_called true e es = let one : suc (length es) ≡ 1 + length es = omega arith in one
more_called false e es = let none : length es ≡ 0 + length es = omega arith in none

length_called : (seats : ℕ) (journal : List Entry) → AllBelow seats journal → length journal ≡ sum_below seats (λ t. length (calls_by t journal))
length_called seats [] below = sym (sum_none seats)
  where
    sum_none : (n : ℕ) → sum_below n (λ t. 0) ≡ 0
    sum_none zero = refl
    sum_none (suc n) = let rest = sum_none n in omega (arith, rest)
length_called seats (e ∷ es) below =
    let rest = length_called seats es below.1 in
    let one = once_below e.seat seats below.0 in
    let add = sum_add seats (λ t. one_if (e.seat == t)) (λ t. length (calls_by t es)) (λ t. length (calls_by t (e ∷ es))) (λ t. more_called (e.seat == t) e (calls_by t es)) in
    omega (arith, rest, one, add)

-- each call is of one thread
more_asked : (b c : Bool) (x : Call) (xs : List Call) → length (if b && c then x ∷ xs else xs) ≤ one_if b + length xs
more_asked true true x xs = omega arith
more_asked true false x xs = omega arith
more_asked false c x xs = omega arith

length_asked : (seats a : ℕ) (calls : List TraceCall) → sum_below seats (λ t. length (asked t a calls)) ≤ length calls
length_asked seats a [] = sum_none seats
  where
    sum_none : (n : ℕ) → sum_below n (λ t. 0) ≤ 0
    sum_none zero = omega arith
    sum_none (suc n) = let rest = sum_none n in omega (arith, rest)
length_asked seats a (c ∷ cs) =
    let rest = length_asked seats a cs in
    let one = once c.thread seats in
    let add = sum_le seats (λ t. one_if (c.thread == t)) (λ t. length (asked t a cs)) (λ t. length (asked t a (c ∷ cs))) (λ t. more_asked (c.thread == t) (c.arena == a) c.call (asked t a cs)) in
    omega (arith, rest, one, add)

pub few_entries : (seats a : ℕ) (calls : List TraceCall) (journal : List Entry) → AllBelow seats journal → ((t : ℕ) → calls_in (calls_by t journal) ≡ asked t a calls) → length journal ≤ length calls
few_entries seats a calls journal below threads =
    let same = sum_same seats (λ t. length (calls_by t journal)) (λ t. length (asked t a calls)) (λ t. sym (length-map (calls_by t journal) (λ (e : Entry). e.call)) ∙ ap length (threads t)) in
    let all = length_called seats journal below in
    let few = length_asked seats a calls in
    omega (arith, same, all, few)
