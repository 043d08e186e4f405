-- A server of one arena, with one sender and its owner.
use Rattle.std.proofs.Common.{◌≡◌, ℕ, ◌^◌, ◌<◌, ◌==◌, Result, Ok, Err, IfOk, false, ◌||◌, Bool, true, if◌then◌else◌, List, [], ◌∷◌, ◌++◌, map, length, get_or, refl, ap, sym, ◌∙◌, subst, arith, None, length-append, eqb-true, eq-eqb}
use Rattle.std.proofs.lemmas.List.{append-nil, length-map}
use Rattle.atomic_table.specs.Seated.{TableId}
use Rattle.heap_model.specs.declared.call.Call.{Call}
use Rattle.arena_lock.specs.Known.{Lock}
use Rattle.arena_lock.specs.declared.opening.Opening.{Opening}
use Rattle.shared_pool.specs.Passes.{part_at, fresh_pass}
use Rattle.shared_pool.specs.Closed.{HasAll}
use Rattle.shared_pool.proofs.AllPasses.{fresh_fits}
use Rattle.arena_server.specs.declared.request.Request.{Request}
use Rattle.arena_server.specs.Requests.{of}
use Rattle.arena_server.specs.Senders.{Line, SenderState, nowhere, sent_at}
use Rattle.arena_server.specs.Servers.{ServerState, IsOwnerOf}
use Rattle.arena_server.specs.Owners.{OwnerState, asked, made}
use Rattle.arena_server.specs.Started.{new_owners, new_line}
use Rattle.arena_server.specs.Closed.{AllBy, Desk, IsDesk, owner_at, AllDesks}

abbrev pub new_owner : List Lock → TableId → OwnerState
new_owner locks q = record { pass = fresh_pass locks 0; queue = q; senders = 1; list = []; held = None; skipped = false }

-- the one owner of a new server
pub one_owner : (locks : List Lock) (queues : List TableId) → length queues ≡ 1 → (q : TableId) × (queues ≡ q ∷ []) × (new_owners locks 1 0 queues ≡ new_owner locks q ∷ [])
one_owner locks [] e = absurd (omega arith)
one_owner locks (q ∷ []) e = (q, refl, refl)
one_owner locks (q ∷ p ∷ qs) e = absurd (omega arith)

pub only_item : {B : Type 0} (xs : List B) (x y : B) → xs ≡ y ∷ [] → x ≡ get_or xs 0 x → x ≡ y
only_item xs x y whole value = value ∙ ap (λ l. get_or l 0 x) whole

fresh_turns : (locks : List Lock) → length locks ≡ 1 → (part_at (fresh_pass locks 0) 0).turns ≡ 2 ^ 57
fresh_turns [] e = absurd (omega arith)
fresh_turns (l ∷ ls) e = refl

pub first_owner : (server : ServerState) (q : TableId) (o : OwnerState) → server.queues ≡ q ∷ [] → length server.pool.locks ≡ 1 → server.senders ≡ 1 → o ≡ new_owner server.pool.locks q
    → IsOwnerOf server o × (o.list ≡ []) × (o.skipped ≡ false) × ((part_at o.pass o.pass.number).turns ≡ 2 ^ 57) × (o.pass.number ≡ 0)
first_owner server q o queues locks senders is =
    subst (λ (z : OwnerState). IsOwnerOf server z × (z.list ≡ []) × (z.skipped ≡ false) × ((part_at z.pass z.pass.number).turns ≡ 2 ^ 57) × (z.pass.number ≡ 0)) (sym is) (
      record {
        pass = fresh_fits 0 server.pool.locks;
        arena = subst (λ (l : List TableId). 0 < length l) (sym queues) (omega arith);
        queue = sym (ap (λ (l : List TableId). get_or l 0 nowhere) queues);
        senders = sym senders;
      },
      refl,
      refl,
      fresh_turns server.pool.locks locks,
      refl,
    )

lines_of : (qs : List TableId) → qs ≡ map (λ (l : Line). l.queue) (map new_line qs)
lines_of [] = refl
lines_of (q ∷ qs) = ap (λ l. q ∷ l) (lines_of qs)

-- and its one sender
pub first_sender : (queues : List TableId) (q : TableId) (s : SenderState) → queues ≡ q ∷ [] → s ≡ record { number = 0; lines = map new_line queues } → (queues ≡ map (λ (l : Line). l.queue) s.lines) × (sent_at s 0 ≡ []) × (s.number ≡ 0)
first_sender queues q s one is = subst (λ (z : SenderState). (queues ≡ map (λ (l : Line). l.queue) z.lines) × (sent_at z 0 ≡ []) × (z.number ≡ 0)) (sym is)
    (lines_of queues, ap (λ (l : List TableId). sent_at (record { number = 0; lines = map new_line l }) 0) one, refl)

-- one number is all of them
pub one_number : (n count : ℕ) → n ≡ 0 → count ≡ 1 → HasAll count (n ∷ [])
one_number n count zero_is one k l = ap (λ b. b || false) (eq-eqb n k (omega (arith, zero_is, one, l)))

-- at the end

or_none : (b : Bool) → b || false ≡ true → b ≡ true
or_none true e = e
or_none false e = e

-- all requests are of the one sender
all_of : (n : ℕ) (rs : List Request) → AllBy (n ∷ []) rs → of n rs ≡ rs
all_of n [] h = refl
all_of n (r ∷ rs) h =
    let same : n ≡ r.sender = eqb-true n r.sender (or_none (n == r.sender) h.0) in
    ap (λ (b : Bool). if b then r ∷ of n rs else of n rs) (eq-eqb r.sender n (sym same)) ∙ ap (λ l. r ∷ l) (all_of n rs h.1)

no_more : {A B : Type 0} (f : A → B) (xs ys : List A) (zs : List B) → map f (xs ++ ys) ≡ zs → length xs ≡ length zs → (map f xs ≡ zs) × (ys ≡ [])
no_more f xs [] zs e l = (ap (map f) (sym (append-nil xs)) ∙ e, refl)
no_more f xs (y ∷ ys) zs e l = let all : length (xs ++ y ∷ ys) ≡ length zs = sym (length-map (xs ++ y ∷ ys) f) ∙ ap length e in absurd (omega (arith, all, l, length-append xs (y ∷ ys)))

-- where the owner has as many requests as were sent, it has these, and nothing is left
all_served : (s : SenderState) (o : OwnerState) (p : Opening) (d : Desk) (calls : List Call) → IsDesk 0 (s ∷ []) o p d → asked (sent_at s 0) ≡ calls → length o.list ≡ length calls → (asked o.list ≡ calls) × (d.left ≡ [])
all_served s o p d calls h sent many =
    let whole : o.list ++ d.left ≡ sent_at s 0 = sym (all_of s.number (o.list ++ d.left) h.requests.no_others) ∙ h.requests.each.0 in
    no_more (λ (r : Request). r.call) o.list d.left calls (ap asked whole ∙ sent) many

-- of one arena there is one desk, its owner's
pub one_desk : {D : Type 0} (f : D → Desk) (xs : List D) (ss : List SenderState) (o : OwnerState) (ps : List Opening) → o.pass.number ≡ 0 → length xs ≡ 1 → AllDesks 0 ss (o ∷ []) ps (map f xs) → (x : D) × (p : Opening) × (xs ≡ x ∷ []) × IsDesk 0 ss o p (f x)
one_desk f [] ss o ps here many h = absurd (omega arith)
one_desk f (x ∷ y ∷ xs) ss o ps here many h = absurd (omega arith)
one_desk f (x ∷ []) ss o [] here many h = absurd h
one_desk f (x ∷ []) ss o (p ∷ ps) here many h = (x, p, refl, subst (λ z. IsDesk 0 ss z p (f x)) (ap (λ (b : Bool). if b then o else owner_at [] 0) (eq-eqb o.pass.number 0 here)) h.0)

-- what is said of the arena at the end
pub at_end : {D E : Type 0} (r : Result D E) (f : D → Desk) (s : SenderState) (o : OwnerState) (calls : List Call) → IfOk r (λ d. (p : Opening) × IsDesk 0 (s ∷ []) o p (f d)) → asked (sent_at s 0) ≡ calls → length o.list ≡ length calls → o.skipped ≡ false
    → IfOk r (λ d. made (f d).journal ≡ calls) × IfOk r (λ d. (f d).left ≡ [])
at_end (Ok d) f s o calls h sent many none = let served = all_served s o h.0 (f d) calls h.1 sent many in (h.1.all_served none ∙ served.0, served.1)
at_end (Err e) f s o calls h sent many none = (tt, tt)
