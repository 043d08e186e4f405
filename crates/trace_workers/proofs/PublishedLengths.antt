-- Passes that are told the lengths of journals, and what these lengths are.
use Rattle.std.proofs.Common.{◌≡◌, ◌≢◌, ◌⊎◌, inl, inr, ℕ, zero, suc, ◌+◌, ◌<◌, ◌≤◌, ◌==◌, ◌||◌, ◌&&◌, Bool, true, false, if◌then◌else◌, List, [], ◌∷◌, map, length, get_or, set, refl, ap, sym, ◌∙◌, subst, arith, eqb-true, eq-eqb, ne_eqb, ⊎_elim, Result, Ok, Err}
use Rattle.trace_workers.proofs.Common.{IfOk, All, false≢true, cases_lt, cases_eq, get_or-set_same, get_or-set_other, All-head, All-tail, Entry, ArenaState, Opening, calls_by, AllBelow, Lock, Known, after_read, is_in, HasAll, AllAgree, AllClosed, PassState, PoolState, IsPassOf, nobody, part_at, with_part, seen_at, mine_at, first_calls, fresh_passes, TraceCall, EachFrom}
use Rattle.trace_gen.specs.Draws.{IsOwn}
use Rattle.trace_runs.specs.Answers.{by_threads, asked, calls_in, AllAnswer}
use Rattle.trace_workers.specs.Lengths.{HasAsked, AllAsked, AreInOrder, SomeKnows, HasMadeFew, IsCounted}
use Rattle.trace_workers.specs.Summaries.{lengths_of}
use Rattle.trace_workers.specs.Workers.{HasMadeOwn, AllOf, AllDone}

-- one pass that is asked

part_same : (p : PassState) (arena : ℕ) (w : Known) → arena < length p.parts → part_at (with_part p arena w) arena ≡ w
part_same p arena w room = get_or-set_same p.parts arena w nobody room

part_other : (p : PassState) (arena a : ℕ) (w : Known) → a ≢ arena → part_at (with_part p arena w) a ≡ part_at p a
part_other p arena a w other = get_or-set_other p.parts arena a w nobody other

pub known_told : (p q : PassState) (arena n : ℕ) → arena < length p.parts → q ≡ with_part p arena (after_read (part_at p arena) n) → (part_at q arena).known ≡ n
known_told p q arena n room is = ap (λ (z : PassState). (part_at z arena).known) is ∙ ap (λ (v : Known). v.known) (part_same p arena (after_read (part_at p arena) n) room)

mine_told : (p q : PassState) (arena n a : ℕ) → arena < length p.parts → q ≡ with_part p arena (after_read (part_at p arena) n) → mine_at q a ≡ mine_at p a
mine_told p q arena n a room is = ⊎_elim
    (λ (here : a ≡ arena).
    let at : mine_at q arena ≡ mine_at p arena = ap (λ (z : PassState). mine_at z arena) is ∙ ap (λ (v : Known). first_calls v.mine) (part_same p arena (after_read (part_at p arena) n) room) in
    subst (λ b. mine_at q b ≡ mine_at p b) (sym here) at)
    (λ (other : a ≢ arena). ap (λ (z : PassState). mine_at z a) is ∙ ap (λ (v : Known). first_calls v.mine) (part_other p arena a (after_read (part_at p arena) n) other))
    (cases_eq a arena)

known_up : (p q : PassState) (arena n a : ℕ) → arena < length p.parts → q ≡ with_part p arena (after_read (part_at p arena) n) → (part_at p arena).known ≤ n → (part_at p a).known ≤ (part_at q a).known
known_up p q arena n a room is up = ⊎_elim
    (λ (here : a ≡ arena).
    let at : (part_at q arena).known ≡ n = known_told p q arena n room is in
    subst (λ b. (part_at p b).known ≤ (part_at q b).known) (sym here) (omega (arith, at, up)))
    (λ (other : a ≢ arena).
    let same : (part_at q a).known ≡ (part_at p a).known = ap (λ (z : PassState). (part_at z a).known) is ∙ ap (λ (v : Known). v.known) (part_other p arena a (after_read (part_at p arena) n) other) in
    omega (arith, same))
    (cases_eq a arena)

pub asked_of : (p q : PassState) (arena n : ℕ) → arena < length p.parts → q ≡ with_part p arena (after_read (part_at p arena) n) → (part_at p arena).known ≤ n → HasAsked p q
asked_of p q arena n room is up = record {
  number = ap (λ (z : PassState). z.number) is;
  mine = λ a. mine_told p q arena n a room is;
  known = λ a. known_up p q arena n a room is up;
}

more_by : (b : Bool) (e : Entry) (es : List Entry) (n : ℕ) → length es ≤ n → length (if b then e ∷ es else es) ≤ suc n
more_by true e es n few = omega (arith, few)
more_by false e es n few = omega (arith, few)

-- a list has no more entries of a number than it has entries
few_by : (n : ℕ) (es : List Entry) → length (calls_by n es) ≤ length es
few_by n [] = omega arith
few_by n (e ∷ es) = more_by (e.seat == n) e (calls_by n es) (length es) (few_by n es)

pub mine_few : (p q : PassState) (arena n : ℕ) → HasAsked p q → mine_at p arena ≡ calls_by p.number (seen_at p arena) → length (seen_at p arena) ≤ n → length (mine_at q arena) ≤ n
mine_few p q arena n asked own seen =
    let same = ap length (asked.mine arena ∙ own) in
    let few = few_by p.number (seen_at p arena) in
    omega (arith, same, few, seen)

-- one of several passes

asked_same : (p : PassState) → HasAsked p p
asked_same p = record { number = refl; mine = λ a. refl; known = λ a. omega arith }

pub all_asked_same : (ps : List PassState) → AllAsked ps ps
all_asked_same [] = tt
all_asked_same (p ∷ ps) = (asked_same p, all_asked_same ps)

pub all_asked_set : (ps : List PassState) (k : ℕ) (q d : PassState) → k < length ps → HasAsked (get_or ps k d) q → AllAsked ps (set ps k q)
all_asked_set [] k q d inside one = tt
all_asked_set (p ∷ ps) zero q d inside one = (one, all_asked_same ps)
all_asked_set (p ∷ ps) (suc k) q d inside one = (asked_same p, all_asked_set ps k q d (omega arith) one)

pub of_at : (pool : PoolState) (ps : List PassState) (k : ℕ) (d : PassState) → k < length ps → AllOf pool ps → IsPassOf pool (get_or ps k d)
of_at pool [] k d inside of = absurd (omega arith)
of_at pool (p ∷ ps) zero d inside of = of.0
of_at pool (p ∷ ps) (suc k) d inside of = of_at pool ps k d (omega arith) of.1

pub of_set : (pool : PoolState) (ps : List PassState) (k : ℕ) (q : PassState) → AllOf pool ps → IsPassOf pool q → AllOf pool (set ps k q)
of_set pool [] k q of one = of
of_set pool (p ∷ ps) zero q of one = (one, of.1)
of_set pool (p ∷ ps) (suc k) q of one = (of.0, of_set pool ps k q of.1 one)

knows_set : (ps : List PassState) (k arena n : ℕ) (q : PassState) → k < length ps → (part_at q arena).known ≡ n → SomeKnows arena n (set ps k q)
knows_set [] k arena n q inside known = absurd (omega arith)
knows_set (p ∷ ps) zero arena n q inside known = inl (omega (arith, known))
knows_set (p ∷ ps) (suc k) arena n q inside known = inr (knows_set ps k arena n q (omega arith) known)

-- no pass has the number
none_of : (m arena n : ℕ) (ps : List PassState) → AreInOrder m ps → (arena < m) ⊎ (m + length ps ≤ arena) → HasMadeFew arena arena n ps
none_of m arena n [] order out = tt
none_of m arena n (p ∷ ps) order (inl below) =
    ((λ is. absurd (omega (arith, order.0, is, below))), none_of (suc m) arena n ps order.1 (inl (omega (arith, below))))
none_of m arena n (p ∷ ps) order (inr above) =
    ((λ is. absurd (omega (arith, order.0, is, above))), none_of (suc m) arena n ps order.1 (inr (omega (arith, above))))

outside : (m arena k : ℕ) → (suc m ≤ arena → arena < suc m + k → ⊥) → (arena < suc m) ⊎ (suc m + k ≤ arena)
outside m arena k not = ⊎_elim
    (λ (below : arena < suc m). inl below)
    (λ (above : suc m ≤ arena). ⊎_elim (λ (within : arena < suc m + k). absurd (not above within)) (λ (behind : suc m + k ≤ arena). inr behind) (cases_lt arena (suc m + k)))
    (cases_lt arena (suc m))

few_set : (m k arena n : ℕ) (ps : List PassState) (q : PassState) → AreInOrder m ps → k < length ps → (m ≤ arena → arena < m + length ps → arena ≡ m + k) → length (mine_at q arena) ≤ n → HasMadeFew arena arena n (set ps k q)
few_set m k arena n [] q order inside own few = absurd (omega arith)
few_set m zero arena n (p ∷ ps) q order inside own few =
    ((λ is. few), none_of (suc m) arena n ps order.1 (outside m arena (length ps) (λ low high. let here = own (omega (arith, low)) (omega (arith, high)) in absurd (omega (arith, here, low)))))
few_set m (suc k) arena n (p ∷ ps) q order inside own few = (
  (λ is. let here = own (omega (arith, order.0, is)) (omega (arith, order.0, is)) in absurd (omega (arith, here, order.0, is))),
  few_set (suc m) k arena n ps q order.1 (omega arith) (λ low high. let here = own (omega (arith, low)) (omega (arith, high)) in omega (arith, here)) few,
)

pub counted_set : (ps : List PassState) (k arena n : ℕ) (q : PassState) → AreInOrder 0 ps → k < length ps → (arena < length ps → arena ≡ k) → (part_at q arena).known ≡ n → length (mine_at q arena) ≤ n → IsCounted (set ps k q) arena n
counted_set ps k arena n q order inside own known few = record {
  known = knows_set ps k arena n q inside known;
  own = few_set 0 k arena n ps q order inside (λ low high. let here = own (omega (arith, high)) in omega (arith, here)) few;
}

-- passes that are asked further

asked_then : (p q r : PassState) → HasAsked p q → HasAsked q r → HasAsked p r
asked_then p q r first second = record {
  number = second.number ∙ first.number;
  mine = λ a. second.mine a ∙ first.mine a;
  known = λ a. let one = first.known a in let two = second.known a in omega (arith, one, two);
}

pub all_asked_then : (ps qs rs : List PassState) → AllAsked ps qs → AllAsked qs rs → AllAsked ps rs
all_asked_then [] [] [] first second = tt
all_asked_then [] [] (r ∷ rs) first second = second
all_asked_then [] (q ∷ qs) rs first second = absurd first
all_asked_then (p ∷ ps) [] rs first second = absurd first
all_asked_then (p ∷ ps) (q ∷ qs) [] first second = second
all_asked_then (p ∷ ps) (q ∷ qs) (r ∷ rs) first second = (asked_then p q r first.0 second.0, all_asked_then ps qs rs first.1 second.1)

pub numbers_asked : (ps qs : List PassState) → AllAsked ps qs → map (λ p. p.number) qs ≡ map (λ p. p.number) ps
numbers_asked [] [] asked = refl
numbers_asked [] (q ∷ qs) asked = absurd asked
numbers_asked (p ∷ ps) [] asked = absurd asked
numbers_asked (p ∷ ps) (q ∷ qs) asked = ap (λ n. n ∷ map (λ p. p.number) qs) asked.0.number ∙ ap (λ ns. p.number ∷ ns) (numbers_asked ps qs asked.1)

pub length_asked : (ps qs : List PassState) → AllAsked ps qs → length qs ≡ length ps
length_asked [] [] asked = refl
length_asked [] (q ∷ qs) asked = absurd asked
length_asked (p ∷ ps) [] asked = absurd asked
length_asked (p ∷ ps) (q ∷ qs) asked = ap suc (length_asked ps qs asked.1)

pub order_asked : (m : ℕ) (ps qs : List PassState) → AllAsked ps qs → AreInOrder m ps → AreInOrder m qs
order_asked m [] [] asked order = tt
order_asked m [] (q ∷ qs) asked order = absurd asked
order_asked m (p ∷ ps) [] asked order = tt
order_asked m (p ∷ ps) (q ∷ qs) asked order = (asked.0.number ∙ order.0, order_asked (suc m) ps qs asked.1 order.1)

pub done_asked : (calls : List TraceCall) (ps qs : List PassState) → AllAsked ps qs → AllDone calls ps → AllDone calls qs
done_asked calls [] [] asked done = tt
done_asked calls [] (q ∷ qs) asked done = absurd asked
done_asked calls (p ∷ ps) [] asked done = tt
done_asked calls (p ∷ ps) (q ∷ qs) was done =
    let one : HasMadeOwn calls q = λ a. ap calls_in (was.0.mine a) ∙ (done.0 a ∙ ap (λ n. asked n a calls) (sym was.0.number)) in
    (one, done_asked calls ps qs was.1 done.1)

knows_asked : (arena n : ℕ) (ps qs : List PassState) → AllAsked ps qs → SomeKnows arena n ps → SomeKnows arena n qs
knows_asked arena n [] qs asked knows = absurd knows
knows_asked arena n (p ∷ ps) [] asked knows = asked
knows_asked arena n (p ∷ ps) (q ∷ qs) asked (inl here) = let up = asked.0.known arena in inl (omega (arith, here, up))
knows_asked arena n (p ∷ ps) (q ∷ qs) asked (inr there) = inr (knows_asked arena n ps qs asked.1 there)

few_asked : (number arena n : ℕ) (ps qs : List PassState) → AllAsked ps qs → HasMadeFew number arena n ps → HasMadeFew number arena n qs
few_asked number arena n [] [] asked few = tt
few_asked number arena n [] (q ∷ qs) asked few = absurd asked
few_asked number arena n (p ∷ ps) [] asked few = tt
few_asked number arena n (p ∷ ps) (q ∷ qs) asked few =
    ((λ is. let was = few.0 (sym asked.0.number ∙ is) in let same = ap length (asked.0.mine arena) in omega (arith, was, same)), few_asked number arena n ps qs asked.1 few.1)

pub counted_asked : (arena : ℕ) (ns : List ℕ) (ps qs : List PassState) → AllAsked ps qs → EachFrom (IsCounted ps) arena ns → EachFrom (IsCounted qs) arena ns
counted_asked arena [] ps qs asked counted = tt
counted_asked arena (n ∷ ns) ps qs asked counted =
    (record { known = knows_asked arena n ps qs asked counted.0.known; own = few_asked arena arena n ps qs asked counted.0.own }, counted_asked (suc arena) ns ps qs asked counted.1)

-- passes with the same numbers

pub order_numbers : (m : ℕ) (ps qs : List PassState) → map (λ p. p.number) qs ≡ map (λ p. p.number) ps → AreInOrder m ps → AreInOrder m qs
order_numbers m [] [] same order = tt
order_numbers m [] (q ∷ qs) same order = absurd (cc same)
order_numbers m (p ∷ ps) [] same order = tt
order_numbers m (p ∷ ps) (q ∷ qs) same order = let here : q.number ≡ p.number = cc same in (here ∙ order.0, order_numbers (suc m) ps qs (cc same) order.1)

pub some_numbers : (ps qs : List PassState) → map (λ p. p.number) qs ≡ map (λ p. p.number) ps → 0 < length ps → 0 < length qs
some_numbers [] qs same some = absurd (omega (arith, some))
some_numbers (p ∷ ps) [] same some = absurd (cc same)
some_numbers (p ∷ ps) (q ∷ qs) same some = omega arith

-- the passes of a start are in order
pub order_fresh : (locks : List Lock) (m count : ℕ) (ps : List PassState) → map (λ p. p.number) ps ≡ map (λ p. p.number) (fresh_passes locks m count) → AreInOrder m ps
order_fresh locks m zero [] is = tt
order_fresh locks m zero (p ∷ ps) is = absurd (cc is)
order_fresh locks m (suc count) [] is = tt
order_fresh locks m (suc count) (p ∷ ps) is = (cc is, order_fresh locks (suc m) count ps (cc is))

-- what was counted, at the end

knows_most : (arena n : ℕ) (ps : List PassState) (journal : List Entry) → SomeKnows arena n ps → AllAgree arena ps journal → n ≤ length journal
knows_most arena n [] journal knows agree = absurd knows
knows_most arena n (p ∷ ps) journal (inl here) agree = let most = agree.0.2 in omega (arith, here, most)
knows_most arena n (p ∷ ps) journal (inr there) agree = knows_most arena n ps journal there agree.1

few_found : (t arena n : ℕ) (ps : List PassState) (journal : List Entry) → is_in t (map (λ p. p.number) ps) ≡ true → HasMadeFew t arena n ps → AllAgree arena ps journal → length (calls_by t journal) ≤ n
few_found t arena n [] journal found few agree = absurd (false≢true found)
few_found t arena n (p ∷ ps) journal found few agree = by_case (p.number == t) refl found (λ later. few_found t arena n ps journal later few.1 agree.1)
  where
    by_case : (b : Bool) → (p.number == t) ≡ b → b || is_in t (map (λ p. p.number) ps) ≡ true → (is_in t (map (λ p. p.number) ps) ≡ true → length (calls_by t journal) ≤ n) → length (calls_by t journal) ≤ n
    by_case true is found rest =
        let here : p.number ≡ t = eqb-true p.number t is in
        let same : calls_by t journal ≡ mine_at p arena = subst (λ k. calls_by k journal ≡ mine_at p arena) here agree.0.1 in
        let long = ap length same in
        let most = few.0 here in
        omega (arith, long, most)
    by_case false is found rest = rest found

none_called : (seats t : ℕ) (journal : List Entry) → seats ≤ t → AllBelow seats journal → length (calls_by t journal) ≡ 0
none_called seats t [] out below = refl
none_called seats t (e ∷ es) out below =
    let other : e.seat ≢ t = λ is. absurd (omega (arith, below.0, is, out)) in
    ap (λ (b : Bool). length (if b then e ∷ calls_by t es else calls_by t es)) (ne_eqb e.seat t other) ∙ none_called seats t es out below.1

cons_not_none : (e : Entry) (es : List Entry) → e ∷ es ≢ []
cons_not_none e es is = absurd (cc is)

rest_of : (b : Bool) (e : Entry) (es : List Entry) → (if b then e ∷ es else es) ≡ [] → es ≡ []
rest_of true e es is = absurd (cons_not_none e es is)
rest_of false e es is = is

-- a journal with entries of one number alone
all_by : (t : ℕ) (journal : List Entry) → ((s : ℕ) → s ≢ t → calls_by s journal ≡ []) → length (calls_by t journal) ≡ length journal
all_by t [] none = refl
all_by t (e ∷ es) none =
    let here : e.seat ≡ t = ⊎_elim (λ (is : e.seat ≡ t). is) (λ (other : e.seat ≢ t). absurd (cons_not_none e (calls_by e.seat es) (sym (ap (λ (b : Bool). if b then e ∷ calls_by e.seat es else calls_by e.seat es) (eq-eqb e.seat e.seat refl)) ∙ none e.seat other))) (cases_eq e.seat t) in
    ap (λ (b : Bool). length (if b then e ∷ calls_by t es else calls_by t es)) (ap (λ n. n == t) here ∙ eq-eqb t t refl) ∙ ap suc (all_by t es (λ s other. rest_of (e.seat == s) e (calls_by s es) (none s other)))

-- calls of which each arena has one thread ask nothing of another arena
none_asked : (t arena : ℕ) (calls : List TraceCall) → t ≢ arena → All IsOwn calls → asked t arena calls ≡ []
none_asked t arena [] other own = refl
none_asked t arena (c ∷ cs) other own = by_case (c.thread == t) (c.arena == arena) refl refl (none_asked t arena cs other (All-tail IsOwn c cs own))
  where
    by_case : (b d : Bool) → (c.thread == t) ≡ b → (c.arena == arena) ≡ d → asked t arena cs ≡ [] → (if b && d then c.call ∷ asked t arena cs else asked t arena cs) ≡ []
    by_case true true is at rest =
        let thread : c.thread ≡ t = eqb-true c.thread t is in
        let here : c.arena ≡ arena = eqb-true c.arena arena at in
        absurd (other (sym thread ∙ All-head IsOwn c cs own ∙ here))
    by_case true false is at rest = rest
    by_case false d is at rest = rest

no_entries : (es : List Entry) → calls_in es ≡ [] → es ≡ []
no_entries [] none = refl
no_entries (e ∷ es) none = absurd (cc none)

-- an arena was counted where its journal answers such calls
counted_is : (calls : List TraceCall) (seats arena n : ℕ) (ps : List PassState) (journal : List Entry) → All IsOwn calls → HasAll seats (map (λ p. p.number) ps) → AllBelow seats journal → AllAgree arena ps journal →
    ((t : ℕ) → calls_in (calls_by t journal) ≡ asked t arena calls) → IsCounted ps arena n → n ≡ length journal
counted_is calls seats arena n ps journal own all below agree threads counted =
    let most = knows_most arena n ps journal counted.known agree in
    let one = all_by arena journal (λ t other. no_entries (calls_by t journal) (threads t ∙ none_asked t arena calls other own)) in
    let few : length (calls_by arena journal) ≤ n = ⊎_elim
    (λ (has : arena < seats). few_found arena arena n ps journal (all arena has) counted.own agree)
    (λ (out : seats ≤ arena). let none = none_called seats arena journal out below in omega (arith, none))
    (cases_lt arena seats) in
    omega (arith, most, one, few)

-- the counts of arenas, from one on, are the lengths of their journals
pub lengths_are : (calls : List TraceCall) (seats arena : ℕ) (ps : List PassState) (os : List Opening) (cs : List (List Entry × ArenaState)) (ns : List ℕ) → All IsOwn calls → HasAll seats (map (λ p. p.number) ps) →
    AllClosed seats arena ps os cs → AllAnswer by_threads calls arena os cs → EachFrom (IsCounted ps) arena ns → length ns ≡ length os → ns ≡ lengths_of cs
lengths_are calls seats arena ps [] [] [] own all closed answers counted many = refl
lengths_are calls seats arena ps [] [] (n ∷ ns) own all closed answers counted many = absurd (omega (arith, many))
lengths_are calls seats arena ps [] (c ∷ cs) ns own all closed answers counted many = absurd closed
lengths_are calls seats arena ps (o ∷ os) [] ns own all closed answers counted many = absurd closed
lengths_are calls seats arena ps (o ∷ os) (c ∷ cs) [] own all closed answers counted many = absurd (omega (arith, many))
lengths_are calls seats arena ps (o ∷ os) (c ∷ cs) (n ∷ ns) own all closed answers counted many =
    let one : n ≡ length c.0 = counted_is calls seats arena n ps c.0 own all closed.0.below closed.0.agree answers.0.threads counted.0 in
    let rest : ns ≡ lengths_of cs = lengths_are calls seats (suc arena) ps os cs ns own all closed.1 answers.1 counted.1 (omega (arith, many)) in
    ap (λ m. m ∷ ns) one ∙ ap (λ ms. length c.0 ∷ ms) rest

-- what holds, holds where an Ok says something
pub IfOk-always : {X E : Type 0} (r : Result X E) (S : Type 0) → S → IfOk r (λ _. S)
IfOk-always (Ok x) S holds = holds
IfOk-always (Err e) S holds = tt
