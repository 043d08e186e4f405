-- What a thread asks of an arena, call by call.
use Rattle.std.proofs.Common.{◌≡◌, ◌≢◌, ℕ, ◌<◌, ◌≤◌, ◌==◌, ◌&&◌, Bool, true, false, if◌then◌else◌, List, [], ◌∷◌, ◌++◌, refl, ap, ◌∙◌, arith, ne_eqb}
use Rattle.std.proofs.lemmas.List.Elements.{All-head, All-tail}
use Rattle.heap_model.specs.declared.call.Call.{Call}
use Rattle.trace_text.specs.declared.call.TraceCall.{TraceCall}
use Rattle.trace_runs.specs.Answers.{asked}
use Rattle.trace_runs.specs.Threads.{AllBy}

put : Bool → Call → List Call → List Call
put b x xs = if b then x ∷ xs else xs

put_more : (b : Bool) (x : Call) (xs ys : List Call) → (if b then x ∷ (xs ++ ys) else (xs ++ ys)) ≡ (if b then x ∷ xs else xs) ++ ys
put_more true x xs ys = refl
put_more false x xs ys = refl

pub asked-append : (t a : ℕ) (xs ys : List TraceCall) → asked t a (xs ++ ys) ≡ asked t a xs ++ asked t a ys
asked-append t a [] ys = refl
asked-append t a (c ∷ cs) ys = ap (λ (l : List Call). if (c.thread == t) && (c.arena == a) then c.call ∷ l else l) (asked-append t a cs ys) ∙ put_more ((c.thread == t) && (c.arena == a)) c.call (asked t a cs) (asked t a ys)

pub one_asked : (c : TraceCall) (t a : ℕ) (b : Bool) → (c.thread == t) && (c.arena == a) ≡ b → asked t a (c ∷ []) ≡ (if b then c.call ∷ [] else [])
one_asked c t a b e = ap (λ (z : Bool). if z then c.call ∷ [] else []) e

pub and_first : (x y : Bool) → x ≡ false → x && y ≡ false
and_first x y e = ap (λ z. z && y) e

pub and_second : (x y : Bool) → y ≡ false → x && y ≡ false
and_second true y e = e
and_second false y e = refl

-- what is asked by no thread of the trace
pub none_asked : (seats t a : ℕ) (calls : List TraceCall) → seats ≤ t → AllBy seats calls → asked t a calls ≡ []
none_asked seats t a [] l h = refl
none_asked seats t a (c ∷ cs) l h =
    let first = All-head (λ (x : TraceCall). x.thread < seats) c cs h in
    let other : c.thread ≢ t = λ e. absurd (omega (arith, first, e)) in
    ap (λ (b : Bool). if b && (c.arena == a) then c.call ∷ asked t a cs else asked t a cs) (ne_eqb c.thread t other) ∙ none_asked seats t a cs l (All-tail (λ (x : TraceCall). x.thread < seats) c cs h)
