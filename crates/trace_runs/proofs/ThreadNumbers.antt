-- The threads and the arenas of a trace's calls, call by call.
use Rattle.std.proofs.Common.{◌≡◌, ℕ, zero, suc, ◌+◌, ◌≤◌, ◌<◌, List, [], ◌∷◌, ◌++◌, length, max, take, get_or, sym, ap, ◌∙◌, refl, arith, subst}
use Rattle.std.proofs.Math.Nat.{max_comm}
use Rattle.std.proofs.lemmas.List.Elements.{All-get_or, All-push}
use Rattle.std.specs.List.{All}
use Rattle.trace_text.specs.declared.call.TraceCall.{TraceCall}
use Rattle.trace_text.specs.Grammar.{IsTraceCall}
use Rattle.trace_runs.specs.Threads.{seats_for, AllIn, AllBy}

-- the calls up to one, and it
take_suc : {A : Type 0} (xs : List A) (k : ℕ) (d : A) → k < length xs → take (suc k) xs ≡ take k xs ++ get_or xs k d ∷ []
take_suc [] k d l = absurd (omega arith)
take_suc (x ∷ xs) zero d l = refl
take_suc (x ∷ xs) (suc k) d l = ap (λ l. x ∷ l) (take_suc xs k d (omega arith))

pub take_next : {A : Type 0} (xs : List A) (k : ℕ) (d : A) → k < length xs → take k xs ++ get_or xs k d ∷ [] ≡ take (k + 1) xs
take_next xs k d l = sym (take_suc xs k d l) ∙ ap (λ n. take n xs) (let up : suc k ≡ k + 1 = omega arith in up)

-- an arena of one of the calls
pub in_at : (n : ℕ) (xs : List TraceCall) (k : ℕ) (d : TraceCall) → k < length xs → AllIn n xs → (get_or xs k d).arena < n
in_at n xs k d l h = All-get_or (λ (x : TraceCall). x.arena < n) xs k d l h

-- each call of a trace is of one of its arenas
pub AllIn-trace : (arenas : ℕ) (calls : List TraceCall) → All (IsTraceCall arenas) calls → AllIn arenas calls
AllIn-trace arenas calls valid = λ k d below. (valid k d below).arena

-- threads below a number

by_up : (n m : ℕ) (xs : List TraceCall) → n ≤ m → AllBy n xs → AllBy m xs
by_up n m xs le by = λ k d below. let one = by k d below in omega (arith, le, one)

by_append : (n : ℕ) (xs : List TraceCall) (c : TraceCall) → AllBy n xs → c.thread < n → AllBy n (xs ++ c ∷ [])
by_append n xs c by below = All-push (λ (x : TraceCall). x.thread < n) xs c by below

pub by_at : (n : ℕ) (calls : List TraceCall) (i : ℕ) (d : TraceCall) → i < length calls → AllBy n calls → (get_or calls i d).thread < n
by_at n calls i d here by = All-get_or (λ (x : TraceCall). x.thread < n) calls i d here by

-- each thread of a trace is one of 64
pub AllBy-trace : (arenas : ℕ) (calls : List TraceCall) → All (IsTraceCall arenas) calls → AllBy 64 calls
AllBy-trace arenas calls valid = λ k d below. (valid k d below).thread

-- one call further
pub by_more : (n m : ℕ) (calls : List TraceCall) (i : ℕ) (d : TraceCall) → i < length calls → n ≤ m → (get_or calls i d).thread < m → AllBy n (take i calls) → AllBy m (take (i + 1) calls)
by_more n m calls i d here le below by =
    subst (AllBy m) (take_next calls i d here) (by_append m (take i calls) (get_or calls i d) (by_up n m (take i calls) le by) below)

-- the seats for one call more

max-assoc : (a b c : ℕ) → max a (max b c) ≡ max (max a b) c
max-assoc a b c = omega arith

seats_more : (calls : List TraceCall) (c : TraceCall) → seats_for (calls ++ c ∷ []) ≡ max (seats_for calls) (c.thread + 1)
seats_more [] c = max_comm (c.thread + 1) 1
seats_more (x ∷ xs) c = ap (max (x.thread + 1)) (seats_more xs c) ∙ max-assoc (x.thread + 1) (seats_for xs) (c.thread + 1)

pub seats_one_more : (calls : List TraceCall) (i : ℕ) (d : TraceCall) → i < length calls → max (seats_for (take i calls)) ((get_or calls i d).thread + 1) ≡ seats_for (take (i + 1) calls)
seats_one_more calls i d here = sym (seats_more (take i calls) (get_or calls i d)) ∙ ap seats_for (take_next calls i d here)
