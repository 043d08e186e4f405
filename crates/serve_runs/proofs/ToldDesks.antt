-- The desks of a server that served all calls of a trace, told with the senders' numbers, answer the trace.
use Rattle.std.proofs.Common.{◌≡◌, ◌≢◌, ◌⊎◌, inl, inr, ℕ, zero, suc, ◌+◌, ◌<◌, ◌≤◌, ◌==◌, ◌&&◌, ◌||◌, Bool, true, false, if◌then◌else◌, List, [], ◌∷◌, ◌++◌, map, length, refl, ap, sym, ◌∙◌, subst, arith, length-append, eqb-true, eq-eqb, ne_eqb}
use Rattle.serve_runs.proofs.Common.{false≢true, cases_lt, append-nil, length-map, Call, Entry, ArenaState, Each, calls_by, Opening, IsBehind, is_in, HasAll, TraceCall, by_owner, calls_in, AnswersThreads, AllAnswer, calls_of, EachFrom, AllBy, Request, of, AllOfSenders, SenderState, sent_at, numbers, OwnerState, made, Clerk}
use Rattle.std.proofs.lemmas.List.Elements.{All-head, All-tail}
use Rattle.trace_runs.specs.Answers as answers
use Rattle.trace_runs.proofs.Answers.{calls_of-few}
use Rattle.trace_runs.proofs.Asked.{none_asked}
use Rattle.arena_server.specs.Closed as closed
use Rattle.arena_server.specs.Closed.{AllSentThere, IsInterleaving, Desk, IsDesk, owner_at, AllDesks}
use Rattle.arena_server.specs.Owners.{asked}
use Rattle.arena_server.proofs.Counting.{same_senders}
use Rattle.arena_server.proofs.NewParties.{numbers_from, has_numbers, below_numbers}
use Rattle.serve_runs.specs.Clerks.{senders_of, HasServedAll}
use Rattle.serve_runs.specs.Sent.{wanted, HasSentAll}
use Rattle.serve_runs.specs.Signed.{signed, all_signed, AllFit}
use Rattle.serve_runs.proofs.Signing.{length_signed, owner_signed, calls_signed}

-- the requests that a trace has for an arena, in the trace's order

abbrev request_of : ℕ → TraceCall → Request
request_of a c = record { sender = c.thread; arena = a; call = c.call }

abbrev requests : ℕ → List TraceCall → List Request
requests a calls = map (request_of a) (calls_of a calls)

one_of : (t a : ℕ) (c : TraceCall) (cs : List TraceCall) (mine here : Bool) → of t (requests a cs) ≡ wanted t a cs → (c.thread ≡ t) ⊎ (mine ≡ false) → (c.thread == t) ≡ mine →
    of t (map (request_of a) (if here then c ∷ calls_of a cs else calls_of a cs)) ≡ map (λ (call : Call). record { sender = t; arena = a; call = call }) (if mine && here then c.call ∷ answers.asked t a cs else answers.asked t a cs)
one_of t a c cs true true rest (inl same) is =
    ap (λ (b : Bool). if b then request_of a c ∷ of t (requests a cs) else of t (requests a cs)) is
    ∙ (ap (λ n. record { sender = n; arena = a; call = c.call } ∷ of t (requests a cs)) same ∙ ap (λ (rs : List Request). record { sender = t; arena = a; call = c.call } ∷ rs) rest)
one_of t a c cs true true rest (inr none) is = absurd (false≢true (sym none))
one_of t a c cs true false rest same is = rest
one_of t a c cs false true rest same is = ap (λ (b : Bool). if b then request_of a c ∷ of t (requests a cs) else of t (requests a cs)) is ∙ rest
one_of t a c cs false false rest same is = rest

tells : (t n : ℕ) (b : Bool) → (n == t) ≡ b → (n ≡ t) ⊎ (b ≡ false)
tells t n true is = inl (eqb-true n t is)
tells t n false is = inr refl

-- those of one thread are what it wants
of_requests : (t a : ℕ) (calls : List TraceCall) → of t (requests a calls) ≡ wanted t a calls
of_requests t a [] = refl
of_requests t a (c ∷ cs) = one_of t a c cs (c.thread == t) (c.arena == a) (of_requests t a cs) (tells t c.thread (c.thread == t) refl) refl

put_below : (n a : ℕ) (b : Bool) (c : TraceCall) (cs : List TraceCall) → c.thread < n → AllOfSenders n (map (request_of a) cs) → AllOfSenders n (map (request_of a) (if b then c ∷ cs else cs))
put_below n a true c cs here rest = (here, rest)
put_below n a false c cs here rest = rest

requests_below : (n a : ℕ) (calls : List TraceCall) → AllBy n calls → AllOfSenders n (requests a calls)
requests_below n a [] h = tt
requests_below n a (c ∷ cs) h =
    put_below n a (c.arena == a) c (calls_of a cs) (All-head (λ (x : TraceCall). x.thread < n) c cs h) (requests_below n a cs (All-tail (λ (x : TraceCall). x.thread < n) c cs h))

-- one arena

found_one : (t a : ℕ) (calls : List TraceCall) (all : List Request) (s : SenderState) (b more : Bool) → (s.number == t) ≡ b → b || more ≡ true → of s.number all ≡ sent_at s a → HasSentAll calls s → (more ≡ true → of t all ≡ wanted t a calls) → of t all ≡ wanted t a calls
found_one t a calls all s true more is has there sent rest = subst (λ n. of n all ≡ wanted n a calls) (eqb-true s.number t is) (there ∙ sent a)
found_one t a calls all s false more is has there sent rest = rest has

-- the requests of a sender among these are what the thread of its number wants
sent_there : (t a : ℕ) (calls : List TraceCall) (all : List Request) (ss : List SenderState) → is_in t (numbers ss) ≡ true → AllSentThere a ss all → Each (HasSentAll calls) ss → of t all ≡ wanted t a calls
sent_there t a calls all [] has there sent = absurd (false≢true has)
sent_there t a calls all (s ∷ ss) has there sent = found_one t a calls all s (s.number == t) (is_in t (numbers ss)) refl has there.0 sent.0 (λ more. sent_there t a calls all ss more there.1 sent.1)

all_below : (n : ℕ) (all : List Request) → closed.AllBy (numbers_from 0 n) all → AllOfSenders n all
all_below n [] h = tt
all_below n (r ∷ rs) h = (below_numbers n r.sender h.0, all_below n rs h.1)

of_none : (n t : ℕ) (all : List Request) → n ≤ t → AllOfSenders n all → of t all ≡ []
of_none n t [] le h = refl
of_none n t (r ∷ rs) le h =
    let other : r.sender ≢ t = λ e. absurd (omega (arith, e, le, h.0)) in
    ap (λ (b : Bool). if b then r ∷ of t rs else of t rs) (ne_eqb r.sender t other) ∙ of_none n t rs le h.1

no_items : {A : Type 0} (xs : List A) → length xs ≡ 0 → xs ≡ []
no_items [] none = refl
no_items (x ∷ xs) none = absurd (omega (arith, none))

-- an owner that served as many requests as the trace has for its arena left none, and served each thread's, in order
record HasServedThreads (calls : List TraceCall) (a : ℕ) (list left : List Request) : Type 0 where
  none : left ≡ []
  threads : (t : ℕ) → of t list ≡ wanted t a calls

by_thread : (n t a : ℕ) (calls : List TraceCall) (all : List Request) (ss : List SenderState) → (t < n) ⊎ (n ≤ t) → numbers ss ≡ numbers_from 0 n → AllBy n calls → Each (HasSentAll calls) ss → IsInterleaving a ss all → of t all ≡ wanted t a calls
by_thread n t a calls all ss (inl below) are by sent h = sent_there t a calls all ss (subst (λ (ns : List ℕ). is_in t ns ≡ true) (sym are) (has_numbers n t below)) h.each sent
by_thread n t a calls all ss (inr above) are by sent h =
    of_none n t all above (all_below n all (subst (λ (ns : List ℕ). closed.AllBy ns all) are h.no_others)) ∙ sym (ap (map (λ (call : Call). record { sender = t; arena = a; call = call })) (none_asked n t a calls above by))

served_of : (n a : ℕ) (calls : List TraceCall) (list left : List Request) (ss : List SenderState) → numbers ss ≡ numbers_from 0 n → AllBy n calls → Each (HasSentAll calls) ss → IsInterleaving a ss (list ++ left) → length list ≡ length (calls_of a calls) → HasServedThreads calls a list left
served_of n a calls list left ss are by sent h many =
    let each : (t : ℕ) → of t (list ++ left) ≡ wanted t a calls = λ t. by_thread n t a calls (list ++ left) ss (cases_lt t n) are by sent h in
    let below = all_below n (list ++ left) (subst (λ (ns : List ℕ). closed.AllBy ns (list ++ left)) are h.no_others) in
    let same = same_senders n (list ++ left) (requests a calls) below (requests_below n a calls by) (λ s l. each s ∙ sym (of_requests s a calls)) in
    let none : left ≡ [] = no_items left (omega (arith, same, length-append list left, length-map (calls_of a calls) (request_of a), many)) in
    let whole : list ++ left ≡ list = ap (λ (l : List Request). list ++ l) none ∙ append-nil list in
    record { none = none; threads = λ t. sym (ap (of t) whole) ∙ each t }

asked_wanted : (t a : ℕ) (cs : List Call) → asked (map (λ (call : Call). record { sender = t; arena = a; call = call }) cs) ≡ cs
asked_wanted t a [] = refl
asked_wanted t a (c ∷ cs) = ap (λ (l : List Call). c ∷ l) (asked_wanted t a cs)

-- what a trace and its senders are
record IsSent (n : ℕ) (calls : List TraceCall) (ss : List SenderState) : Type 0 where
  numbers : numbers ss ≡ numbers_from 0 n
  threads : AllBy n calls
  sent : Each (HasSentAll calls) ss

desk_length : (calls : List TraceCall) (a : ℕ) (ss : List SenderState) (c : Clerk) (p : Opening) (d : Desk) → IsDesk a ss c.owner p d → HasServedAll calls c → length d.journal ≡ length c.owner.list
desk_length calls a ss c p d desk served = sym (length-map d.journal (λ (e : Entry). e.call)) ∙ (ap length (desk.all_served served.skipped) ∙ length-map c.owner.list (λ (r : Request). r.call))

desk_answers : (n : ℕ) (calls : List TraceCall) (a : ℕ) (ss : List SenderState) (c : Clerk) (p : Opening) (d : Desk) → IsSent n calls ss → c.owner.pass.number ≡ a → IsDesk a ss c.owner p d → HasServedAll calls c → AnswersThreads by_owner calls a p (signed c.senders.items d.journal, d.arena)
desk_answers n calls a ss c p d sent number desk served =
    let many : length c.owner.list ≡ length (calls_of a calls) = served.all ∙ ap (λ k. length (calls_of k calls)) number in
    let all = served_of n a calls c.owner.list d.left ss sent.numbers sent.threads sent.sent desk.requests many in
    let long = desk_length calls a ss c p d desk served in
    record {
      behind = subst (λ (es : List Entry). IsBehind p es d.arena) (sym (owner_signed a c.senders.items d.journal desk.bears)) desk.leads;
      threads = λ t. ap (λ (ns : List ℕ). calls_in (calls_by t (signed ns d.journal))) served.noted ∙ (calls_signed t c.owner.list d.journal (desk.all_served served.skipped)
          ∙ (ap asked (all.threads t) ∙ asked_wanted t a (answers.asked t a calls)));
      few = omega (arith, length_signed c.senders.items d.journal, long, many, calls_of-few a calls);
    }

-- all arenas, from one on

-- the arena's owner stands first among those from it on
first_owner : (a : ℕ) (o : OwnerState) (os : List OwnerState) → o.pass.number ≡ a → owner_at (o ∷ os) a ≡ o
first_owner a o os is = ap (λ (b : Bool). if b then o else owner_at os a) (eq-eqb o.pass.number a is)

later_owner : (a b : ℕ) (o : OwnerState) (os : List OwnerState) → o.pass.number ≡ a → a < b → owner_at (o ∷ os) b ≡ owner_at os b
later_owner a b o os is later = ap (λ (z : Bool). if z then o else owner_at os b) (ne_eqb o.pass.number b (λ e. absurd (omega (arith, e, is, later))))

abbrev owners : List Clerk → List OwnerState
owners cs = map (λ (c : Clerk). c.owner) cs

abbrev notes : List Clerk → List (List ℕ)
notes cs = map (λ (c : Clerk). c.senders.items) cs

abbrev told : List Desk → List (List Entry × ArenaState)
told ds = map (λ (d : Desk). (d.journal, d.arena)) ds

-- from arena a on, these owners are those that the desks name
abbrev AreThere : List OwnerState → ℕ → List Clerk → Type 0
AreThere all a cs = (b : ℕ) → a ≤ b → owner_at all b ≡ owner_at (owners cs) b

next_there : (all : List OwnerState) (a : ℕ) (c : Clerk) (cs : List Clerk) → c.owner.pass.number ≡ a → AreThere all a (c ∷ cs) → AreThere all (suc a) cs
next_there all a c cs number there b le = there b (omega (arith, le)) ∙ later_owner a b c.owner (owners cs) number (omega (arith, le))

here_there : (all : List OwnerState) (a : ℕ) (c : Clerk) (cs : List Clerk) → c.owner.pass.number ≡ a → AreThere all a (c ∷ cs) → owner_at all a ≡ c.owner
here_there all a c cs number there = there a (omega arith) ∙ first_owner a c.owner (owners cs) number

desks_answer : (n : ℕ) (calls : List TraceCall) (ss : List SenderState) (all : List OwnerState) → IsSent n calls ss → (a : ℕ) (cs : List Clerk) (ps : List Opening) (ds : List Desk) → AreThere all a cs → EachFrom (λ number (c : Clerk). c.owner.pass.number ≡ number) a cs →
    Each (HasServedAll calls) cs → length cs ≡ length ds → AllDesks a ss all ps ds → AllAnswer by_owner calls a ps (all_signed (notes cs) (told ds))
desks_answer n calls ss all sent a [] [] [] there order served many h = tt
desks_answer n calls ss all sent a [] [] (d ∷ ds) there order served many h = absurd h
desks_answer n calls ss all sent a [] (p ∷ ps) [] there order served many h = absurd h
desks_answer n calls ss all sent a [] (p ∷ ps) (d ∷ ds) there order served many h = absurd (omega (arith, many))
desks_answer n calls ss all sent a (c ∷ cs) ps [] there order served many h = absurd (omega (arith, many))
desks_answer n calls ss all sent a (c ∷ cs) [] (d ∷ ds) there order served many h = absurd h
desks_answer n calls ss all sent a (c ∷ cs) (p ∷ ps) (d ∷ ds) there order served many h = (
  desk_answers n calls a ss c p d sent order.0 (subst (λ (o : OwnerState). IsDesk a ss o p d) (here_there all a c cs order.0 there) h.0) served.0,
  desks_answer n calls ss all sent (suc a) cs ps ds (next_there all a c cs order.0 there) order.1 served.1 (omega (arith, many)) h.1,
)

pub all_answer : (n : ℕ) (calls : List TraceCall) (ss : List SenderState) (cs : List Clerk) (ps : List Opening) (ds : List Desk) → numbers ss ≡ numbers_from 0 n → AllBy n calls → Each (HasSentAll calls) ss → EachFrom (λ number (c : Clerk). c.owner.pass.number ≡ number) 0 cs →
    Each (HasServedAll calls) cs → length cs ≡ length ds → AllDesks 0 ss (owners cs) ps ds → AllAnswer by_owner calls 0 ps (all_signed (notes cs) (told ds))
all_answer n calls ss cs ps ds are by sent order served many h =
    desks_answer n calls ss (owners cs) (record { numbers = are; threads = by; sent = sent }) 0 cs ps ds (λ b le. refl) order served many h

desks_fit : (calls : List TraceCall) (ss : List SenderState) (all : List OwnerState) (a : ℕ) (cs : List Clerk) (ps : List Opening) (ds : List Desk) → AreThere all a cs → EachFrom (λ number (c : Clerk). c.owner.pass.number ≡ number) a cs →
    Each (HasServedAll calls) cs → length cs ≡ length ds → AllDesks a ss all ps ds → AllFit (notes cs) (told ds)
desks_fit calls ss all a [] [] [] there order served many h = tt
desks_fit calls ss all a [] ps (d ∷ ds) there order served many h = absurd (omega (arith, many))
desks_fit calls ss all a [] (p ∷ ps) [] there order served many h = absurd h
desks_fit calls ss all a (c ∷ cs) ps [] there order served many h = absurd (omega (arith, many))
desks_fit calls ss all a (c ∷ cs) [] (d ∷ ds) there order served many h = absurd h
desks_fit calls ss all a (c ∷ cs) (p ∷ ps) (d ∷ ds) there order served many h =
    let desk = subst (λ (o : OwnerState). IsDesk a ss o p d) (here_there all a c cs order.0 there) h.0 in
    let noted = ap length (served.0.noted) in
    let long = desk_length calls a ss c p d desk served.0 in
    let same : length c.senders.items ≡ length d.journal = omega (arith, noted, long, length-map c.owner.list (λ (r : Request). r.sender)) in
    (same, desks_fit calls ss all (suc a) cs ps ds (next_there all a c cs order.0 there) order.1 served.1 (omega (arith, many)) h.1)

pub all_fit : (calls : List TraceCall) (ss : List SenderState) (cs : List Clerk) (ps : List Opening) (ds : List Desk) → EachFrom (λ number (c : Clerk). c.owner.pass.number ≡ number) 0 cs →
    Each (HasServedAll calls) cs → length cs ≡ length ds → AllDesks 0 ss (owners cs) ps ds → AllFit (notes cs) (told ds)
all_fit calls ss cs ps ds order served many h = desks_fit calls ss (owners cs) 0 cs ps ds (λ b le. refl) order served many h

pub order_numbers : (a : ℕ) (cs : List Clerk) → EachFrom (λ number (c : Clerk). c.owner.pass.number ≡ number) a cs → closed.owner_numbers (owners cs) ≡ numbers_from a (length cs)
order_numbers a [] h = refl
order_numbers a (c ∷ cs) h = λ i. h.0 i ∷ order_numbers (suc a) cs h.1 i

-- clerks that are numbered as others, which stand in order
pub order_same : (a : ℕ) (cs ds : List Clerk) → closed.owner_numbers (owners cs) ≡ closed.owner_numbers (owners ds) → EachFrom (λ number (c : Clerk). c.owner.pass.number ≡ number) a ds → EachFrom (λ number (c : Clerk). c.owner.pass.number ≡ number) a cs
order_same a [] ds same h = tt
order_same a (c ∷ cs) [] same h = absurd (cc (same))
order_same a (c ∷ cs) (d ∷ ds) same h =
    let first : c.owner.pass.number ≡ d.owner.pass.number = cc (same) in
    let rest : closed.owner_numbers (owners cs) ≡ closed.owner_numbers (owners ds) = cc (same) in
    (first ∙ h.0, order_same (suc a) cs ds rest h.1)

pub order_from : (a n : ℕ) (cs : List Clerk) → closed.owner_numbers (owners cs) ≡ numbers_from a n → EachFrom (λ number (c : Clerk). c.owner.pass.number ≡ number) a cs
order_from a n [] same = tt
order_from a zero (c ∷ cs) same = absurd (cc (same))
order_from a (suc n) (c ∷ cs) same =
    let first : c.owner.pass.number ≡ a = cc (same) in
    let rest : closed.owner_numbers (owners cs) ≡ numbers_from (suc a) n = cc (same) in
    (first, order_from (suc a) n cs rest)
