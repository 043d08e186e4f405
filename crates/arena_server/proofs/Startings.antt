-- A new server: rows of tokens become senders, and passes with tokens become owners.
use Rattle.std.proofs.Common.{◌≡◌, ℕ, zero, suc, ◌+◌, ◌<◌, false, List, [], ◌∷◌, ◌++◌, map, length, refl, ap, sym, ◌∙◌, subst, arith, append_assoc, None, add-zero, take}
use Rattle.arena_server.proofs.Common.{append-nil, TableId, view, Lock, PassState, fresh_pass, fresh_passes, mine_at, AllRoom}
use mathlib.Core.List.{map-append}
use Rattle.arena_server.specs.declared.part.Ended.{Ended}
use Rattle.arena_server.specs.declared.request.Request.{Request}
use Rattle.arena_server.specs.declared.part.Part.{Part}
use Rattle.arena_server.specs.declared.part.Part.TheVariants.{Sends, Takes, Gone}
use Rattle.arena_server.specs.Parts.{first_part, after_enlisting, new_sender, IsTaker, SendsFor}
use Rattle.arena_server.specs.Senders.{Line, SenderState, line_of, sent_of, AllSend}
use Rattle.arena_server.specs.Owners.{OwnerState, made, senders_of, taken_of, owner_of, IsOwner}
use Rattle.arena_server.specs.Started.{new_line, new_senders, new_owners, after_enlisting_all, AllNewRows, AllSpace, AllNewTakers}
use Rattle.crossbeam_queue.specs.declared.array_queue.Slotted.{Slotted}
use Rattle.arena_server.specs.Servers.{AllHaveRoom}
use Rattle.arena_server.proofs.Sendings.{Token}

-- enlisting

pub new_sends : (p : Part) → IsTaker p → new_sender p ≡ Sends (senders_of p) []
new_sends (Takes n t e) h = refl
new_sends (Sends s sent) h = absurd h
new_sends Gone h = absurd h

pub one_more : (p : Part) → IsTaker p → senders_of (after_enlisting p) ≡ suc (senders_of p)
one_more (Takes n t e) h = let up : n + 1 ≡ suc n = omega arith in up
one_more (Sends s sent) h = absurd h
one_more Gone h = absurd h

all_more : (n k : ℕ) (t : List Request) (e : List Ended) → after_enlisting_all (Takes n t e) k ≡ Takes (n + k) t e
all_more n zero t e = ap (λ m. Takes m t e) (sym (add-zero n))
all_more n (suc k) t e = all_more (n + 1) k t e ∙ ap (λ m. Takes m t e) (let up : n + 1 + k ≡ n + suc k = omega arith in up)

pub all_enlisted : (p : Part) (k n : ℕ) → p ≡ first_part → k ≡ n → after_enlisting_all p k ≡ Takes n [] []
all_enlisted p k n first same = ap (λ q. after_enlisting_all q k) first ∙ (all_more 0 k [] [] ∙ ap (λ m. Takes m [] []) (let e : 0 + k ≡ n = omega arith in e))

-- rows

send_more : (n : ℕ) (r : List Token) (t : Token) → AllSend n r → SendsFor n (view t) × (t.me.1 ≡ []) → AllSend n (r ++ t ∷ [])
send_more n [] t h k = (k, tt)
send_more n (x ∷ xs) t h k = (h.0, send_more n xs t h.1 k)

-- a row with the token of one queue more
pub row_more : (n : ℕ) (queues : List TableId) (q : TableId) (r s : List Token) (t : Token) → s ≡ r ++ t ∷ [] → view t ≡ Sends n [] → t.me.1 ≡ [] → t.table_id ≡ q → AllSend n r × (map line_of r ≡ map new_line queues) → AllSend n s × (map line_of s ≡ map new_line (queues ++ q ∷ []))
row_more n queues q r s t pushed is here queue h = (
  subst (AllSend n) (sym pushed) (send_more n r t h.0 (subst (SendsFor n) (sym is) refl, here)),
  ap (map line_of) pushed ∙ (map-append line_of r (t ∷ []) ∙ (ap (λ l. l ++ line_of t ∷ []) h.1
      ∙ (ap (λ (l : Line). map new_line queues ++ l ∷ []) (λ i. record { queue = queue i; sent = sent_of (is i) }) ∙ sym (map-append new_line queues (q ∷ []))))),
)

pub no_rows : {R : Type 0} (f : R → ℕ × ℕ) (g : R → List Token) (n k : ℕ) (rs : List R) → ((r : R) → (f r).0 ≡ length (g r)) → AllRoom k (map f rs) → AllNewRows n [] (map g rs)
no_rows f g n k [] same h = tt
no_rows f g n k (r ∷ rs) same h = (row (g r) (sym (same r) ∙ h.0.0), no_rows f g (suc n) k rs same h.1)
  where
    row : (ts : List Token) → length ts ≡ 0 → AllSend n ts × (map line_of ts ≡ [])
    row [] e = (tt, refl)
    row (t ∷ ts) e = absurd (omega arith)

pub room_space : (k : ℕ) (rs : List (ℕ × ℕ)) → AllRoom k rs → AllSpace k rs
room_space k [] h = tt
room_space k (r ∷ rs) h = (omega (arith, h.0.0, h.0.1), room_space k rs h.1)

-- senders

pub row_first : (n : ℕ) (queues : List TableId) (all rest : List (List Token)) (r : List Token) → all ≡ r ∷ rest → AllNewRows n queues all → (AllSend n r × (map line_of r ≡ map new_line queues)) × AllNewRows (suc n) queues rest
row_first n queues all rest r whole h = subst (AllNewRows n queues) whole h

pub sender_more : (queues : List TableId) (n m : ℕ) (r : List Token) (ss next goal : List SenderState) → next ≡ ss ++ record { number = n; lines = map line_of r } ∷ [] → map line_of r ≡ map new_line queues → ss ++ new_senders queues n (suc m) ≡ goal → next ++ new_senders queues (suc n) m ≡ goal
sender_more queues n m r ss next goal pushed lines h =
    ap (λ l. l ++ new_senders queues (suc n) m) (pushed ∙ ap (λ (ls : List Line). ss ++ record { number = n; lines = ls } ∷ []) lines) ∙ (append_assoc ss (record { number = n; lines = map new_line queues } ∷ []) (new_senders queues (suc n) m) ∙ h)

-- owners

fresh_mine : (n : ℕ) (locks : List Lock) (a : ℕ) → mine_at (fresh_pass locks n) a ≡ []
fresh_mine n [] a = refl
fresh_mine n (l ∷ ls) zero = refl
fresh_mine n (l ∷ ls) (suc a) = fresh_mine n ls a

pub taker_first : (n : ℕ) (qs : List TableId) (all rest : List Token) (t : Token) → all ≡ t ∷ rest → AllNewTakers qs n all → (q : TableId) × (more : List TableId) × (qs ≡ q ∷ more) × ((t.table_id ≡ q) × (t.me.1 ≡ []) × (view t ≡ Takes n [] [])) × AllNewTakers more n rest
taker_first n qs all rest t whole h = cut qs (subst (AllNewTakers qs n) whole h)
  where
    cut : (qs : List TableId) → AllNewTakers qs n (t ∷ rest) → (q : TableId) × (more : List TableId) × (qs ≡ q ∷ more) × ((t.table_id ≡ q) × (t.me.1 ≡ []) × (view t ≡ Takes n [] [])) × AllNewTakers more n rest
    cut [] h = absurd h
    cut (q ∷ more) h = (q, more, refl, h.0, h.1)

pub new_owner : (locks : List Lock) (a n : ℕ) (p : PassState) (t : Token) → p ≡ fresh_pass locks a → t.me.1 ≡ [] → view t ≡ Takes n [] [] → IsOwner p (record { arena = a; token = t; held = None; skipped = false })
new_owner locks a n p t pass here is =
    let none : (b : ℕ) → mine_at p b ≡ [] = λ b. ap (λ (z : PassState). mine_at z b) pass ∙ fresh_mine a locks b in
    let taken : taken_of (view t) ≡ [] = ap taken_of is in record {
      arena = sym (ap (λ (z : PassState). z.number) pass);
      till = record {
        part = is ∙ (λ i. Takes (sym (ap senders_of is) i) (sym taken i) []);
        here = here;
        taken = sym (append-nil (taken_of (view t)));
      };
      calls = record {
        own = (map (λ (r : Request). r.call) (taken_of (view t)), ap (λ l. made l ++ map (λ (r : Request). r.call) (taken_of (view t))) (none p.number));
        all = λ _. ap made (none p.number) ∙ sym (ap (map (λ (r : Request). r.call)) taken);
        elsewhere = λ b _. none b;
      };
    }

pub owner_more : (locks : List Lock) (n a : ℕ) (q : TableId) (qs : List TableId) (p : PassState) (t : Token) (os next goal : List OwnerState) → next ≡ os ++ owner_of p (record { arena = a; token = t; held = None; skipped = false }) ∷ [] → p ≡ fresh_pass locks a → t.table_id ≡ q → view t ≡ Takes n [] []
    → os ++ new_owners locks n a (q ∷ qs) ≡ goal → next ++ new_owners locks n (suc a) qs ≡ goal
owner_more locks n a q qs p t os next goal pushed pass queue is h =
    let same : owner_of p (record { arena = a; token = t; held = None; skipped = false }) ≡ record { pass = fresh_pass locks a; queue = q; senders = n; list = []; held = None; skipped = false } =
    λ i. record { pass = pass i; queue = queue i; senders = senders_of (is i); list = taken_of (is i); held = None; skipped = false } in
    ap (λ l. l ++ new_owners locks n (suc a) qs) (pushed ∙ ap (λ (o : OwnerState). os ++ o ∷ []) same) ∙ (append_assoc os _ (new_owners locks n (suc a) qs) ∙ h)

pub fresh_length : (locks : List Lock) (n count : ℕ) → length (fresh_passes locks n count) ≡ count
fresh_length locks n zero = refl
fresh_length locks n (suc count) = ap suc (fresh_length locks (suc n) count)

pub takers_length : (qs : List TableId) (n : ℕ) (ts : List Token) → AllNewTakers qs n ts → length ts ≡ length qs
takers_length [] n [] h = refl
takers_length [] n (t ∷ ts) h = absurd h
takers_length (q ∷ qs) n [] h = absurd h
takers_length (q ∷ qs) n (t ∷ ts) h = ap suc (takers_length qs n ts h.1)

pub fresh_first : (locks : List Lock) (n k : ℕ) (all rest : List PassState) (p : PassState) → all ≡ p ∷ rest → all ≡ fresh_passes locks n (suc k) → (p ≡ fresh_pass locks n) × (rest ≡ fresh_passes locks (suc n) k)
fresh_first locks n k all rest p whole is = let e : p ∷ rest ≡ fresh_pass locks n ∷ fresh_passes locks (suc n) k = sym whole ∙ is in (cc e, cc e)

takers_more : (qs : List TableId) (n : ℕ) (ts : List Token) (q : TableId) (t : Token) → AllNewTakers qs n ts → (t.table_id ≡ q) × (t.me.1 ≡ []) × (view t ≡ Takes n [] []) → AllNewTakers (qs ++ q ∷ []) n (ts ++ t ∷ [])
takers_more [] n [] q t h k = (k, tt)
takers_more [] n (x ∷ xs) q t h k = absurd h
takers_more (x ∷ xs) n [] q t h k = absurd h
takers_more (x ∷ xs) n (u ∷ us) q t h k = (h.0, takers_more xs n us q t h.1 k)

pub takers_pushed : (qs : List TableId) (n : ℕ) (ts next : List Token) (q : TableId) (t : Token) → next ≡ ts ++ t ∷ [] → AllNewTakers qs n ts → (t.table_id ≡ q) × (t.me.1 ≡ []) × (view t ≡ Takes n [] []) → AllNewTakers (qs ++ q ∷ []) n next
takers_pushed qs n ts next q t pushed h k = subst (AllNewTakers (qs ++ q ∷ []) n) (sym pushed) (takers_more qs n ts q t h k)

-- while not all were done, of those that are left there is one, and so many more
pub one_left : {m n whole : ℕ} → n + m ≡ whole → n < whole → (k : ℕ) × (m ≡ suc k)
one_left {m = zero} all less = absurd (omega (arith, all, less))
one_left {m = suc k} all less = (k, refl)

pub no_takers : (n : ℕ) (ts : List Token) → length ts ≡ 0 → AllNewTakers [] n ts
no_takers n [] e = tt
no_takers n (t ∷ ts) e = absurd (omega arith)

pub room_queue : {S D Q A : Type 0} (room : ℕ) (qs next : List (Slotted S D Q A)) (q : Slotted S D Q A) → next ≡ qs ++ q ∷ [] → AllHaveRoom room qs → q.cap ≡ room → AllHaveRoom room next
room_queue {S} {D} {Q} {A} room qs next q pushed h k = subst (AllHaveRoom room) (sym pushed) (more qs h)
  where
    more : (qs : List (Slotted S D Q A)) → AllHaveRoom room qs → AllHaveRoom room (qs ++ q ∷ [])
    more [] h = (k, tt)
    more (x ∷ xs) h = (h.0, more xs h.1)

take_all : {A : Type 0} (xs zs : List A) → take (length xs) (xs ++ zs) ≡ xs
take_all [] zs = refl
take_all (x ∷ xs) zs = ap (λ l. x ∷ l) (take_all xs zs)

pub take_front : {A : Type 0} (xs zs : List A) (n : ℕ) → n ≡ length xs → take n (xs ++ zs) ≡ xs
take_front xs zs n e = ap (λ k. take k (xs ++ zs)) e ∙ take_all xs zs
