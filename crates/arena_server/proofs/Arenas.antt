-- Arenas one by one, at the end of a server.
use Rattle.std.proofs.Common.{Option, ◌≡◌, ℕ, zero, suc, ◌<◌, List, [], ◌∷◌, ◌++◌, map, length, drop, get_or, remove, refl, ap, sym, ◌∙◌, subst, arith, append_assoc}
use mathlib.Core.List.{map-append}
use Rattle.arena_server.proofs.Common.{append-nil, TableId}
use Rattle.arena_server.specs.declared.request.Request.{Request}
use Rattle.arena_server.specs.declared.owner.Till.{Till}
use Rattle.arena_server.specs.Senders.{Line, SenderState, nowhere, tail_lines, behead_sender, numbers, AllSendTo}
use Rattle.arena_server.specs.Closed.{AllSentThere, AllBy}
use Rattle.arena_server.specs.Emptied.{IsEmptied, AllEmptied, list_at, held_at}

-- a sender's lines to the arenas from a on
abbrev pub from_arena : ℕ → SenderState → SenderState
from_arena a s = record { number = s.number; lines = drop a s.lines }

abbrev pub all_from : ℕ → List SenderState → List SenderState
all_from a ss = map (from_arena a) ss

from_zero : (ss : List SenderState) → ss ≡ all_from 0 ss
from_zero [] = refl
from_zero (s ∷ ss) = ap (λ l. s ∷ l) (from_zero ss)

pub from_first : (n : ℕ) (ss : List SenderState) → n ≡ 0 → ss ≡ all_from n ss
from_first n ss e = from_zero ss ∙ ap (λ k. all_from k ss) (sym e)

tail_drop : (a : ℕ) (ls : List Line) → tail_lines (drop a ls) ≡ drop (suc a) ls
tail_drop zero [] = refl
tail_drop zero (l ∷ ls) = refl
tail_drop (suc a) [] = refl
tail_drop (suc a) (l ∷ ls) = tail_drop a ls

pub from_next : (a : ℕ) (ss : List SenderState) → map behead_sender (all_from a ss) ≡ all_from (suc a) ss
from_next a [] = refl
from_next a (s ∷ ss) = λ i. record { number = s.number; lines = tail_drop a s.lines i } ∷ from_next a ss i

get_drop : (a : ℕ) (ls : List Line) (d : Line) → get_or (drop a ls) 0 d ≡ get_or ls a d
get_drop zero ls d = refl
get_drop (suc a) [] d = refl
get_drop (suc a) (l ∷ ls) d = get_drop a ls d

there_from : (a : ℕ) (ss : List SenderState) (all : List Request) → AllSentThere 0 (all_from a ss) all → AllSentThere a ss all
there_from a [] all h = tt
there_from a (s ∷ ss) all h = (h.0 ∙ ap (λ (l : Line). l.sent) (get_drop a s.lines _), there_from a ss all h.1)

numbers_from : (a : ℕ) (ss : List SenderState) → numbers (all_from a ss) ≡ numbers ss
numbers_from a [] = refl
numbers_from a (s ∷ ss) = ap (λ ns. s.number ∷ ns) (numbers_from a ss)

-- the queue of the first line that is left is that of arena a
pub emptied_from : (a : ℕ) (now ss : List SenderState) (list : List Request) (held : Option Request) (left : List Request) → now ≡ all_from a ss → IsEmptied 0 now list held left → IsEmptied a ss list held left
emptied_from a now ss list held left is h = record {
  requests = record {
    each = there_from a ss (list ++ left) (subst (λ (l : List SenderState). AllSentThere 0 l (list ++ left)) is h.requests.each);
    no_others = subst (λ (l : List ℕ). AllBy l (list ++ left)) (ap numbers is ∙ numbers_from a ss) h.requests.no_others;
  };
  first = h.first;
}

pub numbers_behead : (ss : List SenderState) → numbers (map behead_sender ss) ≡ numbers ss
numbers_behead [] = refl
numbers_behead (s ∷ ss) = ap (λ ns. s.number ∷ ns) (numbers_behead ss)

tail_queues : (q : TableId) (qs : List TableId) (ls : List Line) → q ∷ qs ≡ map (λ (l : Line). l.queue) ls → qs ≡ map (λ (l : Line). l.queue) (tail_lines ls)
tail_queues q qs [] e = absurd (cc e)
tail_queues q qs (l ∷ ls) e = cc e

pub send_behead : (q : TableId) (qs : List TableId) (ss : List SenderState) → AllSendTo (q ∷ qs) ss → AllSendTo qs (map behead_sender ss)
send_behead q qs [] h = tt
send_behead q qs (s ∷ ss) h = (tail_queues q qs s.lines h.0, send_behead q qs ss h.1)

-- what is taken off the front, and put at the end

pub head_back : {B : Type 0} (xs ys : List B) (x : B) → 0 < length xs → x ≡ get_or xs 0 x → ys ≡ remove xs 0 → xs ≡ x ∷ ys
head_back [] ys x l value items = absurd (omega arith)
head_back (z ∷ zs) ys x l value items = λ i. sym value i ∷ sym items i

one_longer : {B : Type 0} (xs : List B) (x : B) → length (xs ++ x ∷ []) ≡ suc (length xs)
one_longer [] x = refl
one_longer (z ∷ zs) x = ap suc (one_longer zs x)

pub more_length : {B : Type 0} (xs ys : List B) (x : B) → ys ≡ xs ++ x ∷ [] → suc (length xs) ≡ length ys
more_length xs ys x e = sym (ap length e ∙ one_longer xs x)

pub none_out : {D B : Type 0} (f : D → B) (out : List D) (ys : List B) → [] ≡ out → map f out ++ ys ≡ ys
none_out f out ys none = ap (λ l. map f l ++ ys) (sym none)

pub moved : {C D B : Type 0} (f : D → B) (g : C → B) (out next : List D) (d : D) (xs ys : List C) (x : C) (goal : List B) → next ≡ out ++ d ∷ [] → xs ≡ x ∷ ys → f d ≡ g x → map f out ++ map g xs ≡ goal → map f next ++ map g ys ≡ goal
moved f g out next d xs ys x goal pushed whole same h =
    ap (λ l. map f l ++ map g ys) pushed ∙ (ap (λ l. l ++ map g ys) (map-append f out (d ∷ [])) ∙ (append_assoc (map f out) (f d ∷ []) (map g ys)
    ∙ (ap (λ z. map f out ++ z ∷ map g ys) same ∙ (ap (λ l. map f out ++ map g l) (sym whole) ∙ h))))

-- one more arena is emptied
pub one_emptied : {D : Type 0} (f : D → List Request) (out next : List D) (d : D) (ss : List SenderState) (all : List Till) → next ≡ out ++ d ∷ [] → IsEmptied (length out) ss (list_at all (length out)) (held_at all (length out)) (f d)
    → ((ls : List (List Request)) → AllEmptied (length out) ss all ls → AllEmptied 0 ss all (map f out ++ ls))
    → (ls : List (List Request)) → AllEmptied (length next) ss all ls → AllEmptied 0 ss all (map f next ++ ls)
one_emptied f out next d ss all pushed one h ls more =
    let tail : AllEmptied (suc (length out)) ss all ls = subst (λ n. AllEmptied n ss all ls) (sym (more_length out next d pushed)) more in
    let now : AllEmptied 0 ss all (map f out ++ f d ∷ ls) = h (f d ∷ ls) (one, tail) in
    subst (AllEmptied 0 ss all) (sym (ap (λ l. map f l ++ ls) pushed ∙ (ap (λ l. l ++ ls) (map-append f out (d ∷ [])) ∙ append_assoc (map f out) (f d ∷ []) ls))) now

pub none_emptied : {D : Type 0} (f : D → List Request) (out : List D) (ss : List SenderState) (all : List Till) → [] ≡ out → (ls : List (List Request)) → AllEmptied (length out) ss all ls → AllEmptied 0 ss all (map f out ++ ls)
none_emptied f out ss all none = subst (λ l. (ls : List (List Request)) → AllEmptied (length l) ss all ls → AllEmptied 0 ss all (map f l ++ ls)) none (λ ls h. h)

pub all_emptied : {D : Type 0} (f : D → List Request) (out : List D) (ss : List SenderState) (all : List Till) → ((ls : List (List Request)) → AllEmptied (length out) ss all ls → AllEmptied 0 ss all (map f out ++ ls)) → AllEmptied 0 ss all (map f out)
all_emptied f out ss all h = subst (AllEmptied 0 ss all) (append-nil (map f out)) (h [] tt)

-- what is left of a list of queues
pub drop_next : (a : ℕ) (all : List TableId) (q : TableId) (qs : List TableId) → drop a all ≡ q ∷ qs → (get_or all a nowhere ≡ q) × (drop (suc a) all ≡ qs)
drop_next zero [] q qs e = absurd (cc e)
drop_next zero (x ∷ xs) q qs e = (cc e, cc e)
drop_next (suc a) [] q qs e = absurd (cc e)
drop_next (suc a) (x ∷ xs) q qs e = drop_next a xs q qs e

pub drop_first : (n : ℕ) (qs : List TableId) → n ≡ 0 → qs ≡ drop n qs
drop_first n qs e = ap (λ k. drop k qs) (sym e)
