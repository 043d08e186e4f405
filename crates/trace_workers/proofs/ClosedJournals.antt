-- The journals at the end answer the trace.
use Rattle.std.proofs.Common.{◌≡◌, ◌≢◌, ◌⊎◌, inl, inr, ℕ, zero, suc, ◌+◌, ◌<◌, ◌≤◌, ◌==◌, ◌||◌, Bool, true, false, if◌then◌else◌, List, [], ◌∷◌, ◌++◌, map, length, refl, ap, sym, ◌∙◌, subst, arith, eqb-true, ne_eqb, take}
use Rattle.trace_workers.proofs.Common.{false≢true, Entry, Opening, Lock, calls_by, AllBelow, is_in, HasAll, AllFitLocks, AllAgree, AllClosed, PassState, PoolState, mine_at, fresh_pass, fresh_passes, ArenaState, TraceCall}
use Rattle.shared_pool.proofs.AllPasses.{fresh_fits}
use Rattle.trace_runs.specs.Answers.{by_threads, asked, calls_in, AllAnswer}
use Rattle.trace_runs.specs.Threads.{AllBy}
use Rattle.trace_runs.proofs.Asked.{none_asked}
use Rattle.trace_workers.specs.Workers.{HasTurns, AllReady, AllOf, AllDone}
use Rattle.trace_workers.proofs.Counting.{few_entries}

below_or : (t n : ℕ) → (t < n) ⊎ (n ≤ t)
below_or t zero = inr (omega arith)
below_or zero (suc n) = inl (omega arith)
below_or (suc t) (suc n) = up (below_or t n)
  where
    up : (t < n) ⊎ (n ≤ t) → (suc t < suc n) ⊎ (suc n ≤ suc t)
    up (inl l) = inl (omega arith)
    up (inr l) = inr (omega arith)

none_called : (seats t : ℕ) (journal : List Entry) → seats ≤ t → AllBelow seats journal → calls_by t journal ≡ []
none_called seats t [] l h = refl
none_called seats t (e ∷ es) l h =
    let other : e.seat ≢ t = λ q. absurd (omega (arith, h.0, q)) in
    ap (λ (b : Bool). if b then e ∷ calls_by t es else calls_by t es) (ne_eqb e.seat t other) ∙ none_called seats t es l h.1

found_one : (t a : ℕ) (calls : List TraceCall) (journal : List Entry) (p : PassState) (more : Bool) (b : Bool) → (p.number == t) ≡ b → b || more ≡ true → calls_in (mine_at p a) ≡ asked p.number a calls → calls_by p.number journal ≡ mine_at p a
    → (more ≡ true → calls_in (calls_by t journal) ≡ asked t a calls) → calls_in (calls_by t journal) ≡ asked t a calls
found_one t a calls journal p more true is h d g f =
    let here : p.number ≡ t = eqb-true p.number t is in
    subst (λ n. calls_in (calls_by n journal) ≡ asked n a calls) here (ap calls_in g ∙ d)
found_one t a calls journal p more false is h d g f = f h

-- a thread that has a pass
found : (t a : ℕ) (calls : List TraceCall) (journal : List Entry) (ps : List PassState) → is_in t (map (λ p. p.number) ps) ≡ true → AllDone calls ps → AllAgree a ps journal → calls_in (calls_by t journal) ≡ asked t a calls
found t a calls journal [] e d g = absurd (false≢true e)
found t a calls journal (p ∷ ps) e d g = found_one t a calls journal p (is_in t (map (λ p. p.number) ps)) (p.number == t) refl e (d.0 a) g.0.1 (λ h. found t a calls journal ps h d.1 g.1)

threads_of : (seats t a : ℕ) (calls : List TraceCall) (ps : List PassState) (journal : List Entry) → (t < seats) ⊎ (seats ≤ t) → HasAll seats (map (λ p. p.number) ps) → AllBy seats calls → AllDone calls ps → AllAgree a ps journal → AllBelow seats journal → calls_in (calls_by t journal) ≡ asked t a calls
threads_of seats t a calls ps journal (inl l) all by d g below = found t a calls journal ps (all t l) d g
threads_of seats t a calls ps journal (inr l) all by d g below = ap calls_in (none_called seats t journal l below) ∙ sym (none_asked seats t a calls l by)

pub answers : (calls : List TraceCall) (seats a : ℕ) (ps : List PassState) (os : List Opening) (cs : List (List Entry × ArenaState)) → HasAll seats (map (λ p. p.number) ps) → AllBy seats calls → AllDone calls ps → AllClosed seats a ps os cs → AllAnswer by_threads calls a os cs
answers calls seats a ps [] [] all by d h = tt
answers calls seats a ps [] (c ∷ cs) all by d h = h
answers calls seats a ps (o ∷ os) [] all by d h = h
answers calls seats a ps (o ∷ os) (c ∷ cs) all by d h = (
  (
      let threads : (t : ℕ) → calls_in (calls_by t c.0) ≡ asked t a calls = λ t. threads_of seats t a calls ps c.0 (below_or t seats) all by d h.0.agree h.0.below in
      record { behind = h.0.held; threads = threads; few = few_entries seats a calls c.0 h.0.below threads }
      ),
  answers calls seats (suc a) ps os cs all by d h.1,
)

-- the passes of a start

fresh_mine : (n : ℕ) (locks : List Lock) (a : ℕ) → mine_at (fresh_pass locks n) a ≡ []
fresh_mine n [] a = refl
fresh_mine n (l ∷ ls) zero = refl
fresh_mine n (l ∷ ls) (suc a) = fresh_mine n ls a

fresh_turns : (n : ℕ) (locks : List Lock) → HasTurns 0 (fresh_pass locks n)
fresh_turns n [] a l = absurd (omega arith)
fresh_turns n (x ∷ xs) zero l = omega arith
fresh_turns n (x ∷ xs) (suc a) l = fresh_turns n xs a (omega arith)

pub ready_fresh : (pool : PoolState) (n count : ℕ) → AllReady pool (fresh_passes pool.locks n count)
ready_fresh pool n zero = tt
ready_fresh pool n (suc count) = ((fresh_fits n pool.locks, record { none = fresh_mine n pool.locks; turns = fresh_turns n pool.locks }), ready_fresh pool (suc n) count)

pub length_fresh : (locks : List Lock) (n count : ℕ) → length (fresh_passes locks n count) ≡ count
length_fresh locks n zero = refl
length_fresh locks n (suc count) = ap suc (length_fresh locks (suc n) count)

pub fits_of : (pool : PoolState) (ps : List PassState) → AllOf pool ps → AllFitLocks (map (λ (l : Lock). l.id) pool.locks) ps
fits_of pool [] h = tt
fits_of pool (p ∷ ps) h = (h.0, fits_of pool ps h.1)

take_all : {A : Type 0} (xs zs : List A) → take (length xs) (xs ++ zs) ≡ xs
take_all [] zs = refl
take_all (x ∷ xs) zs = ap (λ l. x ∷ l) (take_all xs zs)

pub take_front : {A : Type 0} (xs zs : List A) (n : ℕ) → n ≡ length xs → take n (xs ++ zs) ≡ xs
take_front xs zs n e = ap (λ k. take k (xs ++ zs)) e ∙ take_all xs zs
