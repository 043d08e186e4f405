-- The entries of a number in a journal, and facts of each of several numbers.
use Rattle.std.proofs.Common.{◌≡◌, ◌≢◌, ℕ, zero, suc, ◌+◌, ◌≤◌, ◌<◌, ◌==◌, ◌||◌, Bool, true, false, if◌then◌else◌, List, [], ◌∷◌, ◌++◌, length, refl, ap, sym, ◌∙◌, subst, ⊎_elim, arith, append_assoc, length-append, ne_eqb, eqb-true}
use Rattle.std.proofs.lemmas.Bool.{false≢true}
use mathlib.Core.List.{IsPrefix}
use Rattle.std.proofs.lemmas.List.{append-nil}
use Rattle.heap_model.specs.declared.call.Entry.{Entry}
use Rattle.arena_lock.specs.Journal.{calls_by, Grows, owns, Each, calls_of, Since, numbers}
use Rattle.heap_model.specs.Journal.{AllBelow}

put_if-append : (b : Bool) (e : Entry) (xs ys : List Entry) → (if b then e ∷ (xs ++ ys) else (xs ++ ys)) ≡ (if b then e ∷ xs else xs) ++ ys
put_if-append true e xs ys = refl
put_if-append false e xs ys = refl

-- the entries of a number in two lists, one behind the other
pub calls_by-append : (n : ℕ) (xs ys : List Entry) → calls_by n (xs ++ ys) ≡ calls_by n xs ++ calls_by n ys
calls_by-append n [] ys = refl
calls_by-append n (e ∷ es) ys = ap (λ (l : List Entry). if e.seat == n then e ∷ l else l) (calls_by-append n es ys) ∙ put_if-append (e.seat == n) e (calls_by n es) (calls_by n ys)

-- an entry of another number changes nothing
pub calls_by-other : (n : ℕ) (xs : List Entry) (e : Entry) → e.seat ≢ n → calls_by n (xs ++ e ∷ []) ≡ calls_by n xs
calls_by-other n xs e ne = calls_by-append n xs (e ∷ []) ∙ (ap (λ (b : Bool). calls_by n xs ++ (if b then e ∷ [] else [])) (ne_eqb e.seat n ne) ∙ append-nil (calls_by n xs))

none_left : {A : Type 0} (xs ys : List A) → length (xs ++ ys) ≤ length xs → ys ≡ []
none_left xs [] h = refl
none_left xs (y ∷ ys) h = absurd (omega (arith, h, length-append xs (y ∷ ys)))

-- a list between two with the same calls has these too
pub calls_by-between : (n : ℕ) (xs ys zs : List Entry) → IsPrefix xs ys → IsPrefix ys zs → calls_by n xs ≡ calls_by n zs → calls_by n ys ≡ calls_by n zs
calls_by-between n xs ys zs p q e =
    let a : calls_by n ys ≡ calls_by n xs ++ calls_by n p.0 = ap (calls_by n) (sym p.1) ∙ calls_by-append n xs p.0 in
    let b : calls_by n zs ≡ calls_by n ys ++ calls_by n q.0 = ap (calls_by n) (sym q.1) ∙ calls_by-append n ys q.0 in
    let nothing : calls_by n q.0 ≡ [] = none_left (calls_by n ys) (calls_by n q.0) (omega (arith, ap length a, ap length b, ap length e, length-append (calls_by n xs) (calls_by n p.0), length-append (calls_by n ys) (calls_by n q.0))) in
    sym (b ∙ (ap (λ l. calls_by n ys ++ l) nothing ∙ append-nil (calls_by n ys)))

-- facts of each of several numbers

pub each_map : (P Q : ℕ → Type 0) → ((n : ℕ) → P n → Q n) → (ns : List ℕ) → Each P ns → Each Q ns
each_map P Q f [] h = tt
each_map P Q f (n ∷ ns) h = (f n h.0, each_map P Q f ns h.1)

pub each_both : (P Q : ℕ → Type 0) → (ns : List ℕ) → Each P ns → Each Q ns → Each (λ n. P n × Q n) ns
each_both P Q [] h k = tt
each_both P Q (n ∷ ns) h k = ((h.0, k.0), each_both P Q ns h.1 k.1)

pub each_append : (P : ℕ → Type 0) → (xs ys : List ℕ) → Each P xs → Each P ys → Each P (xs ++ ys)
each_append P [] ys h k = k
each_append P (n ∷ ns) ys h k = (h.0, each_append P ns ys h.1 k)

pub each_front : (P : ℕ → Type 0) (xs ys : List ℕ) → Each P (xs ++ ys) → Each P xs
each_front P [] ys h = tt
each_front P (n ∷ ns) ys h = (h.0, each_front P ns ys h.1)

pub each_back : (P : ℕ → Type 0) (xs ys : List ℕ) → Each P (xs ++ ys) → Each P ys
each_back P [] ys h = h
each_back P (n ∷ ns) ys h = each_back P ns ys h.1

owned_at : (P : ℕ → Type 0) (n m : ℕ) (ms : List ℕ) (b : Bool) → (m == n) ≡ b → b || owns n ms ≡ true → P m → (owns n ms ≡ true → P n) → P n
owned_at P n m ms true is e p more = subst P (eqb-true m n is) p
owned_at P n m ms false is e p more = more e

pub each_owned : (P : ℕ → Type 0) (n : ℕ) (ns : List ℕ) → owns n ns ≡ true → Each P ns → P n
each_owned P n [] e h = absurd (false≢true e)
each_owned P n (m ∷ ms) e h = owned_at P n m ms (m == n) refl e h.0 (λ o. each_owned P n ms o h.1)

-- two journals in which these numbers have the same calls
pub same_calls : (log log' : List Entry) (ns : List ℕ) → Each (λ n. calls_by n log ≡ calls_by n log') ns → calls_of log ns ≡ calls_of log' ns
same_calls log log' [] h = refl
same_calls log log' (n ∷ ns) h = λ i. h.0 i ∷ same_calls log log' ns h.1 i

pub each_same : (log log' : List Entry) (ns : List ℕ) → calls_of log ns ≡ calls_of log' ns → Each (λ n. calls_by n log ≡ calls_by n log') ns
each_same log log' [] h = tt
each_same log log' (n ∷ ns) h = (cc (h), each_same log log' ns (cc (h)))

-- the journal before begins the one after
pub grown : (n : ℕ) (before after : List Entry) → Grows n before after → IsPrefix before after
grown n before after g = ⊎_elim (λ e. ([], append-nil before ∙ sym e)) (λ t. (t.0 ∷ [], sym t.2)) g

-- the entries of another number stay
pub others_calls : (n m : ℕ) (before after : List Entry) → m ≢ n → Grows n before after → calls_by m after ≡ calls_by m before
others_calls n m before after ne g = ⊎_elim (λ e. ap (calls_by m) e) (λ t. ap (calls_by m) t.2 ∙ calls_by-other m before t.0 (λ is. ne (sym is ∙ t.1))) g

below_append : (n : ℕ) (xs : List Entry) (e : Entry) → AllBelow n xs → e.seat < n → AllBelow n (xs ++ e ∷ [])
below_append n [] e h l = (l, tt)
below_append n (x ∷ xs) e h l = (h.0, below_append n xs e h.1 l)

-- the journal still begins as it did, and the entries since bear numbers below n
pub since_grows : (k n : ℕ) (start before after : List Entry) → Grows k before after → k < n → Since n start before → Since n start after
since_grows k n start before after g l h = ⊎_elim (λ e. subst (Since n start) (sym e) h)
    (λ t. (h.0 ++ t.0 ∷ [], sym (append_assoc start h.0 (t.0 ∷ [])) ∙ (ap (λ z. z ++ t.0 ∷ []) h.1 ∙ sym t.2), below_append n h.0 t.0 h.2 (subst (λ z. z < n) (sym t.1) l))) g

-- what holds of each of the numbers from k on
pub each_number : (P : ℕ → Type 0) (k n seats : ℕ) → k + n ≤ seats → ((m : ℕ) → m < seats → P m) → Each P (numbers k n)
each_number P k zero seats h f = tt
each_number P k (suc n) seats h f = (f k (omega arith), each_number P (suc k) n seats (omega arith) f)

-- none of the numbers from i on is a smaller one
pub above : (k i n : ℕ) → k < i → Each (λ m. m ≢ k) (numbers i n)
above k i zero h = tt
above k i (suc n) h = ((λ e. omega (arith, e)), above k (suc i) n (omega arith))

-- calls that agree with two journals, side by side
pub split_calls : (long xs ys : List Entry) (vs ws : List ℕ) → calls_of xs vs ++ calls_of ys ws ≡ calls_of long (vs ++ ws) → (calls_of long vs ≡ calls_of xs vs) × (calls_of long ws ≡ calls_of ys ws)
split_calls long xs ys [] ws e = (refl, sym e)
split_calls long xs ys (v ∷ vs) ws e =
    let t = split_calls long xs ys vs ws (cc (e)) in let head : calls_by v xs ≡ calls_by v long = cc (e) in ((λ i. sym head i ∷ t.0 i), t.1)
