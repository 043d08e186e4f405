-- Passes that have seen nothing.
use Rattle.std.proofs.Common.{◌≡◌, ℕ, zero, suc, ◌+◌, ◌^◌, ◌<◌, List, [], ◌∷◌, ◌++◌, map, length, refl, ap, sym, ◌∙◌, subst, arith, take, remove, ◌≤◌}
use mathlib.Core.List.{map-append}
use Rattle.arena_lock.specs.Known.{Lock, Known, seat_at, new_seats}
use Rattle.shared_pool.specs.Begun.{AllNew}
use Rattle.shared_pool.specs.Rows.{tail_list, AllRoom, AllSome, AllFirst, FirstIs, firsts, lines}
use Rattle.shared_pool.specs.Passes.{fresh_pass, fresh_passes}

pub fresh_more : (locks : List Lock) (n count : ℕ) → fresh_passes locks n (suc count) ≡ fresh_passes locks n count ++ fresh_pass locks (n + count) ∷ []
fresh_more locks n zero = ap (λ k. fresh_pass locks k ∷ []) (let e : n ≡ n + 0 = omega arith in e)
fresh_more locks n (suc count) = ap (λ ps. fresh_pass locks n ∷ ps) (fresh_more locks (suc n) count ∙ ap (λ k. fresh_passes locks (suc n) count ++ fresh_pass locks k ∷ []) (let e : suc n + count ≡ n + suc count = omega arith in e))

new_more : (seats : ℕ) (ls : List Lock) (l : Lock) → AllNew seats ls → (l.start ≡ []) × (l.seats ≡ seats) → AllNew seats (ls ++ l ∷ [])
new_more seats [] l h n = (n, tt)
new_more seats (x ∷ xs) l h n = (h.0, new_more seats xs l h.1 n)

pub new_pushed : {L : Type 0} (f : L → Lock) (seats : ℕ) (xs ys : List L) (x : L) → ys ≡ xs ++ x ∷ [] → AllNew seats (map f xs) → ((f x).start ≡ []) × ((f x).seats ≡ seats) → AllNew seats (map f ys)
new_pushed f seats xs ys x is h n = subst (AllNew seats) (sym (ap (map f) is ∙ map-append f xs (x ∷ []))) (new_more seats (map f xs) (f x) h n)

pub no_items : {A : Type 0} (xs : List A) → length xs ≡ 0 → [] ≡ xs
no_items [] e = refl
no_items (x ∷ xs) e = absurd (omega arith)

take_all : {A : Type 0} (xs zs : List A) → take (length xs) (xs ++ zs) ≡ xs
take_all [] zs = refl
take_all (x ∷ xs) zs = ap (λ l. x ∷ l) (take_all xs zs)

pub take_front : {A : Type 0} (xs zs : List A) (n : ℕ) → n ≡ length xs → take n (xs ++ zs) ≡ xs
take_front xs zs n e = ap (λ k. take k (xs ++ zs)) e ∙ take_all xs zs

room_more : (n : ℕ) (rs : List (ℕ × ℕ)) (r : ℕ × ℕ) → AllRoom n rs → (r.0 ≡ 0) × (n ≤ r.1) → AllRoom n (rs ++ r ∷ [])
room_more n [] r h k = (k, tt)
room_more n (x ∷ xs) r h k = (h.0, room_more n xs r h.1 k)

pub room_pushed : {R : Type 0} (f : R → ℕ × ℕ) (n : ℕ) (xs ys : List R) (x : R) → ys ≡ xs ++ x ∷ [] → AllRoom n (map f xs) → ((f x).0 ≡ 0) × (n ≤ (f x).1) → AllRoom n (map f ys)
room_pushed f n xs ys x is h k = subst (AllRoom n) (sym (ap (map f) is ∙ map-append f xs (x ∷ []))) (room_more n (map f xs) (f x) h k)

room_tail : {R : Type 0} (f : R → ℕ × ℕ) (n : ℕ) (xs ys : List R) → ys ≡ remove xs 0 → AllRoom n (map f xs) → AllRoom n (map f ys)
room_tail f n [] ys e h = subst (λ l. AllRoom n (map f l)) (sym e) tt
room_tail f n (x ∷ xs) ys e h = subst (λ l. AllRoom n (map f l)) (sym e) h.1

pub room_left : {R : Type 0} (xs ys : List R) (f : R → ℕ × ℕ) (n m : ℕ) → n ≡ m → ys ≡ remove xs 0 → AllRoom n (map f xs) → AllRoom m (map f ys)
room_left xs ys f n m same e h = subst (λ k. AllRoom k (map f ys)) same (room_tail f n xs ys e h)

pub some_lines : (k n : ℕ) (locks : List Lock) → AllSome (lines k (suc n) locks)
some_lines k n [] = tt
some_lines k n (l ∷ ls) = (omega arith, some_lines k n ls)

pub first_lines : (k n : ℕ) (locks : List Lock) → AllFirst k (lines k (suc n) locks)
first_lines k n [] = tt
first_lines k n (l ∷ ls) = ((refl, refl), first_lines k n ls)

pub firsts_lines : (k n : ℕ) (locks : List Lock) → firsts (lines k (suc n) locks) ≡ (fresh_pass locks k).parts
firsts_lines k n [] = refl
firsts_lines k n (l ∷ ls) = ap (λ ps. seat_at l.id l.opening [] (k ∷ []) 0 (2 ^ 57) ∷ ps) (firsts_lines k n ls)

pub tails_lines : (k n : ℕ) (locks : List Lock) → map tail_list (lines k (suc n) locks) ≡ lines (suc k) n locks
tails_lines k n [] = refl
tails_lines k n (l ∷ ls) = ap (λ xs. new_seats l.id l.opening [] (suc k) n ∷ xs) (tails_lines k n ls)

pub first_split : {V : Type 0} (xs rest : List V) (x : V) (f : V → List Known) (n : ℕ) → xs ≡ x ∷ rest → AllFirst n (map f xs) → FirstIs n (f x) × AllFirst n (map f rest)
first_split xs rest x f n whole h = subst (λ l. AllFirst n (map f l)) whole h

pub first_seat : (xs rest : List Known) (x : Known) (n : ℕ) → xs ≡ x ∷ rest → FirstIs n xs → (x.numbers ≡ n ∷ []) × (x.seen ≡ [])
first_seat xs rest x n whole h = subst (λ l. FirstIs n l) whole h

-- while not all were dealt, of those that are left there is one, and so many more
pub one_left : {m n whole : ℕ} → n + m ≡ whole → n < whole → (k : ℕ) × (m ≡ suc k)
one_left {m = zero} all less = absurd (omega (arith, all, less))
one_left {m = suc k} all less = (k, refl)

pub one_less : {A : Type 0} (xs ys : List A) (k : ℕ) → ys ≡ remove xs 0 → length xs ≡ suc k → length ys ≡ k
one_less [] ys k e l = absurd (omega arith)
one_less (x ∷ xs) ys k e l = ap length e ∙ (let h : length xs ≡ k = omega (arith, l) in h)
