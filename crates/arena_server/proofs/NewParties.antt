-- The senders and the owners that a server is started with are those of the server, and all of them. For callers.
use Rattle.std.proofs.Common.{◌≡◌, ◌⊎◌, inl, inr, ℕ, zero, suc, ◌+◌, ◌<◌, ◌≤◌, ◌^◌, ◌==◌, ◌||◌, Bool, true, false, List, [], ◌∷◌, map, length, get_or, refl, ap, sym, ◌∙◌, subst, arith, None, eq-eqb, eqb-true}
use Rattle.std.proofs.lemmas.Bool.{cases_lt}
use Rattle.arena_server.proofs.Common.{false≢true, TableId, Lock, part_at, fresh_pass, is_in, HasAll}
use Rattle.arena_lock.specs.Journal.{Each}
use Rattle.shared_pool.proofs.AllPasses.{fresh_fits}
use Rattle.arena_server.specs.Senders.{Line, SenderState, nowhere, sent_at, AllSendTo, numbers}
use Rattle.arena_server.specs.Owners.{OwnerState}
use Rattle.arena_server.specs.Closed.{owner_numbers}
use Rattle.arena_server.specs.Servers.{ServerState, IsSenderOf, IsOwnerOf, AllOwnersOf}
use Rattle.arena_server.specs.Started.{new_line, new_senders, new_owners}

-- numbers in order

-- so many numbers from one on
abbrev pub numbers_from : ℕ → ℕ → List ℕ
numbers_from n zero = []
numbers_from n (suc count) = n ∷ numbers_from (suc n) count

or_right : (b c : Bool) → c ≡ true → b || c ≡ true
or_right true c e = refl
or_right false c e = e

has_one : (n k : ℕ) (more : Bool) → (n < k) ⊎ (k ≤ n) → n ≤ k → (n < k → more ≡ true) → (n == k) || more ≡ true
has_one n k more (inl l) low f = or_right (n == k) more (f l)
has_one n k more (inr l) low f = ap (λ b. b || more) (eq-eqb n k (omega arith))

has_from : (n count k : ℕ) → n ≤ k → k < n + count → is_in k (numbers_from n count) ≡ true
has_from n zero k low high = absurd (omega arith)
has_from n (suc count) k low high = has_one n k (is_in k (numbers_from (suc n) count)) (cases_lt n k) low (λ l. has_from (suc n) count k (omega arith) (omega arith))

pub has_numbers : (count : ℕ) → HasAll count (numbers_from 0 count)
has_numbers count k l = has_from 0 count k (omega arith) (omega arith)

below_one : (n m k : ℕ) (b more : Bool) → (n == k) ≡ b → b || more ≡ true → n < m → (more ≡ true → k < m) → k < m
below_one n m k true more is has low rest = let same = eqb-true n k is in omega (arith, same, low)
below_one n m k false more is has low rest = rest has

below_from : (n count k : ℕ) → is_in k (numbers_from n count) ≡ true → k < n + count
below_from n zero k has = absurd (false≢true has)
below_from n (suc count) k has =
    below_one n (n + suc count) k (n == k) (is_in k (numbers_from (suc n) count)) refl has (omega arith) (λ more. let rest = below_from (suc n) count k more in omega (arith, rest))

pub below_numbers : (count k : ℕ) → is_in k (numbers_from 0 count) ≡ true → k < count
below_numbers count k has = let rest = below_from 0 count k has in omega (arith, rest)

-- senders

lines_of : (qs : List TableId) → qs ≡ map (λ (l : Line). l.queue) (map new_line qs)
lines_of [] = refl
lines_of (q ∷ qs) = ap (λ l. q ∷ l) (lines_of qs)

-- each has a line through each queue
pub senders_of_server : (server : ServerState) (n count : ℕ) → Each (λ s. IsSenderOf server s) (new_senders server.queues n count)
senders_of_server server n zero = tt
senders_of_server server n (suc count) = (lines_of server.queues, senders_of_server server (suc n) count)

sent_none : (qs : List TableId) (a : ℕ) → (get_or (map new_line qs) a (record { queue = nowhere; sent = [] })).sent ≡ []
sent_none [] a = refl
sent_none (q ∷ qs) zero = refl
sent_none (q ∷ qs) (suc a) = sent_none qs a

-- none has sent a request
pub senders_none : (queues : List TableId) (n count : ℕ) → Each (λ s. (a : ℕ) → sent_at s a ≡ []) (new_senders queues n count)
senders_none queues n zero = tt
senders_none queues n (suc count) = (sent_none queues, senders_none queues (suc n) count)

pub sender_numbers : (queues : List TableId) (n count : ℕ) → numbers (new_senders queues n count) ≡ numbers_from n count
sender_numbers queues n zero = refl
sender_numbers queues n (suc count) = ap (λ ns. n ∷ ns) (sender_numbers queues (suc n) count)

pub all_send : (server : ServerState) (ss : List SenderState) → Each (λ s. IsSenderOf server s) ss → AllSendTo server.queues ss
all_send server [] h = tt
all_send server (s ∷ ss) h = (h.0, all_send server ss h.1)

-- owners

-- an owner of the server that has taken nothing, with 2^57 turns in its arena
pub record IsFreshOwner (server : ServerState) (o : OwnerState) : Type 0 where
  pub of : IsOwnerOf server o
  pub none : o.list ≡ []
  pub skipped : o.skipped ≡ false
  pub turns : (part_at o.pass o.pass.number).turns ≡ 2 ^ 57

fresh_turns : (n : ℕ) (locks : List Lock) (a : ℕ) → a < length locks → (part_at (fresh_pass locks n) a).turns ≡ 2 ^ 57
fresh_turns n [] a l = absurd (omega arith)
fresh_turns n (x ∷ xs) zero l = refl
fresh_turns n (x ∷ xs) (suc a) l = fresh_turns n xs a (omega arith)

owners_from : (server : ServerState) → length server.pool.locks ≡ length server.queues → (a : ℕ) (qs : List TableId) → a + length qs ≡ length server.queues → ((k : ℕ) → get_or qs k nowhere ≡ get_or server.queues (a + k) nowhere)
    → Each (IsFreshOwner server) (new_owners server.pool.locks server.senders a qs)
owners_from server locks a [] all at = tt
owners_from server locks a (q ∷ qs) all at = (
  record {
    of = record {
      pass = fresh_fits a server.pool.locks;
      arena = omega (arith, all);
      queue = at 0 ∙ ap (λ n. get_or server.queues n nowhere) (let here : a + 0 ≡ a = omega arith in here);
      senders = refl;
    };
    none = refl;
    skipped = refl;
    turns = fresh_turns a server.pool.locks a (omega (arith, all, locks));
  },
  owners_from server locks (suc a) qs (omega (arith, all)) (λ k. at (suc k) ∙ ap (λ n. get_or server.queues n nowhere) (let next : a + suc k ≡ suc a + k = omega arith in next)),
)

-- each is of the server, has taken nothing, and has all its turns
pub owners_of_server : (server : ServerState) → length server.pool.locks ≡ length server.queues → Each (IsFreshOwner server) (new_owners server.pool.locks server.senders 0 server.queues)
owners_of_server server locks = owners_from server locks 0 server.queues (omega arith) (λ k. ap (λ n. get_or server.queues n nowhere) (let here : k ≡ 0 + k = omega arith in here))

pub owner_numbers_from : (locks : List Lock) (senders a : ℕ) (qs : List TableId) → owner_numbers (new_owners locks senders a qs) ≡ numbers_from a (length qs)
owner_numbers_from locks senders a [] = refl
owner_numbers_from locks senders a (q ∷ qs) = ap (λ ns. a ∷ ns) (owner_numbers_from locks senders (suc a) qs)

pub length_owners : (locks : List Lock) (senders a : ℕ) (qs : List TableId) → length (new_owners locks senders a qs) ≡ length qs
length_owners locks senders a [] = refl
length_owners locks senders a (q ∷ qs) = ap suc (length_owners locks senders (suc a) qs)

pub all_owners : (server : ServerState) (os : List OwnerState) → Each (IsOwnerOf server) os → AllOwnersOf server os
all_owners server [] h = tt
all_owners server (o ∷ os) h = (h.0, all_owners server os h.1)
