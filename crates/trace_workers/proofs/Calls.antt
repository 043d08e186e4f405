-- What was asked so far.
use Rattle.std.proofs.Common.{◌≡◌, ◌≢◌, ℕ, zero, suc, ◌+◌, ◌-◌, ◌^◌, ◌<◌, ◌==◌, ◌&&◌, Bool, true, false, List, [], ◌∷◌, ◌++◌, map, length, get_or, set, refl, ap, sym, ◌∙◌, subst, arith, eq-eqb, ne_eqb}
use Rattle.trace_workers.proofs.Common.{append-nil, length-map, Entry, PassState, PoolState, IsPassOf, nobody, part_at, Called, mine_at, first_calls, Lock, Known, Call, TraceCall}
use mathlib.Core.List.{map-append}
use mathlib.Core.Logic.{dite}
use native.Mathlib.Decide.{ℕ_discrete}
use Rattle.shared_pool.specs.declared.job.Receipt.{Receipt}
use Rattle.trace_runs.specs.Answers.{asked, calls_in}
use Rattle.trace_runs.proofs.Asked.{asked-append, one_asked, and_first, and_second}
use Rattle.trace_workers.specs.Workers.{HasMadeOwn, HasTurns, AllReady, AllOf, AllDone}

-- a call of another thread
pub done_other : (xs : List TraceCall) (c : TraceCall) (p : PassState) → c.thread ≢ p.number → HasMadeOwn xs p → HasMadeOwn (xs ++ c ∷ []) p
done_other xs c p ne done a = done a ∙ sym (asked-append p.number a xs (c ∷ []) ∙ (ap (λ l. asked p.number a xs ++ l) (one_asked c p.number a false (and_first (c.thread == p.number) (c.arena == a) (ne_eqb c.thread p.number ne))) ∙ append-nil (asked p.number a xs)))

get_set : (ps : List Known) (a : ℕ) (w : Known) → a < length ps → get_or (set ps a w) a nobody ≡ w
get_set [] a w l = absurd (omega arith)
get_set (p ∷ ps) zero w l = refl
get_set (p ∷ ps) (suc a) w l = get_set ps a w (omega arith)

get_other : (ps : List Known) (a b : ℕ) (w : Known) → b ≢ a → get_or (set ps a w) b nobody ≡ get_or ps b nobody
get_other [] a b w ne = refl
get_other (p ∷ ps) zero zero w ne = absurd (ne refl)
get_other (p ∷ ps) zero (suc b) w ne = refl
get_other (p ∷ ps) (suc a) zero w ne = refl
get_other (p ∷ ps) (suc a) (suc b) w ne = get_other ps a b w (λ e. ne (ap suc e))

length_set : (ps : List Known) (a : ℕ) (w : Known) → length (set ps a w) ≡ length ps
length_set [] a w = refl
length_set (p ∷ ps) zero w = refl
length_set (p ∷ ps) (suc a) w = ap suc (length_set ps a w)

-- where the pool has a lock, the pass has a seat
pub has_part : (pool : PoolState) (p : PassState) (a : ℕ) → IsPassOf pool p → a < length pool.locks → a < length p.parts
has_part pool p a is l = subst (λ n. a < n) (sym (length-map pool.locks (λ (l : Lock). l.id)) ∙ (ap length is ∙ length-map p.parts (λ (k : Known). k.lock))) l

-- the pass's own call
pub done_more : (xs : List TraceCall) (c : TraceCall) (p q : PassState) (r : Receipt) → c.arena < length p.parts → c.thread ≡ p.number → Called c.arena c.call p q r → HasMadeOwn xs p → HasMadeOwn (xs ++ c ∷ []) q
done_more xs c p q r room mine called done a =
    let more : asked q.number a (xs ++ c ∷ []) ≡ asked p.number a xs ++ asked p.number a (c ∷ []) = ap (λ (z : PassState). asked z.number a (xs ++ c ∷ [])) called.pass ∙ asked-append p.number a xs (c ∷ []) in
    dite (ℕ_discrete a c.arena)
    (λ (here : a ≡ c.arena).
    let one : asked p.number a (c ∷ []) ≡ c.call ∷ [] = one_asked c p.number a true (ap (λ (z : Bool). z && (c.arena == a)) (eq-eqb c.thread p.number mine) ∙ eq-eqb c.arena a (sym here)) in
    let at : mine_at q c.arena ≡ mine_at p c.arena ++ r.entry ∷ [] = ap (λ (z : PassState). mine_at z c.arena) called.pass ∙ ap (λ (z : Known). first_calls z.mine) (get_set p.parts c.arena _ room) in
    let got : mine_at q a ≡ mine_at p a ++ r.entry ∷ [] = subst (λ b. mine_at q b ≡ mine_at p b ++ r.entry ∷ []) (sym here) at in
    ap calls_in got ∙ (map-append (λ (e : Entry). e.call) (mine_at p a) (r.entry ∷ []) ∙ (ap (λ l. l ++ r.entry.call ∷ []) (done a) ∙ (ap (λ k. asked p.number a xs ++ k ∷ []) called.bears.1 ∙ (ap (λ l. asked p.number a xs ++ l) (sym one) ∙ sym more)))))
    (λ (other : a ≢ c.arena).
    let none : asked p.number a (c ∷ []) ≡ [] = one_asked c p.number a false (and_second (c.thread == p.number) (c.arena == a) (ne_eqb c.arena a (λ e. other (sym e)))) in
    let same : mine_at q a ≡ mine_at p a = ap (λ (z : PassState). mine_at z a) called.pass ∙ ap (λ (z : Known). first_calls z.mine) (get_other p.parts c.arena a _ other) in
    ap calls_in same ∙ (done a ∙ (sym (append-nil (asked p.number a xs)) ∙ (ap (λ l. asked p.number a xs ++ l) (sym none) ∙ sym more))))

pub turns_left : (k few : ℕ) (p : PassState) (a : ℕ) → a < length p.parts → k < few → few < 2 ^ 32 → HasTurns k p → 0 < (part_at p a).turns
turns_left k few p a room l f h = let t = h a room in omega (arith, t, l, f)

pub turns_other : (k : ℕ) (p : PassState) → HasTurns k p → HasTurns (k + 1) p
turns_other k p h a room = let t = h a room in omega (arith, t)

pub turns_more : (k arena : ℕ) (call : Call) (p q : PassState) (r : Receipt) → arena < length p.parts → Called arena call p q r → HasTurns k p → HasTurns (k + 1) q
turns_more k arena call p q r room called h a l =
    let was : a < length p.parts = subst (λ n. a < n) (ap (λ (z : PassState). length z.parts) called.pass ∙ length_set p.parts arena _) l in
    let t = h a was in
    dite (ℕ_discrete a arena)
    (λ (here : a ≡ arena).
    let at : (part_at q arena).turns ≡ (part_at p arena).turns - 1 = ap (λ (z : PassState). (part_at z arena).turns) called.pass ∙ ap (λ (z : Known). z.turns) (get_set p.parts arena _ room) in
    let got : (part_at q a).turns ≡ (part_at p a).turns - 1 = subst (λ b. (part_at q b).turns ≡ (part_at p b).turns - 1) (sym here) at in
    omega (arith, got, t))
    (λ (other : a ≢ arena).
    let same : (part_at q a).turns ≡ (part_at p a).turns = ap (λ (z : PassState). (part_at z a).turns) called.pass ∙ ap (λ (z : Known). z.turns) (get_other p.parts arena a _ other) in
    omega (arith, same, t))

pub ready_front : (pool : PoolState) (xs ys : List PassState) → AllReady pool (xs ++ ys) → AllReady pool xs
ready_front pool [] ys h = tt
ready_front pool (x ∷ xs) ys h = (h.0, ready_front pool xs ys h.1)

pub ready_back : (pool : PoolState) (xs ys : List PassState) → AllReady pool (xs ++ ys) → AllReady pool ys
ready_back pool [] ys h = h
ready_back pool (x ∷ xs) ys h = ready_back pool xs ys h.1

pub of_append : (pool : PoolState) (xs ys : List PassState) → AllOf pool xs → AllOf pool ys → AllOf pool (xs ++ ys)
of_append pool [] ys h k = k
of_append pool (x ∷ xs) ys h k = (h.0, of_append pool xs ys h.1 k)

pub done_append : (calls : List TraceCall) (xs ys : List PassState) → AllDone calls xs → AllDone calls ys → AllDone calls (xs ++ ys)
done_append calls [] ys h k = k
done_append calls (x ∷ xs) ys h k = (h.0, done_append calls xs ys h.1 k)

pub numbers_append : (xs ys : List PassState) → map (λ p. p.number) (xs ++ ys) ≡ map (λ p. p.number) xs ++ map (λ p. p.number) ys
numbers_append xs ys = map-append (λ (p : PassState). p.number) xs ys
