-- New senders and owners, and the tokens that they are made of.
use Rattle.std.specs.Prelude.{◌≡◌, ℕ, zero, suc, ◌+◌, ◌≤◌, false, List, [], ◌∷◌, map, None}
use Rattle.atomic_table.specs.Seated.{TableId}
use Rattle.crossbeam_queue.specs.Passes.{Pass, view}
use Rattle.arena_lock.specs.Known.{Lock}
use Rattle.shared_pool.specs.Passes.{fresh_pass}
use Rattle.arena_server.specs.declared.request.Request.{Request}
use Rattle.arena_server.specs.declared.part.Part.{Part}
use Rattle.arena_server.specs.declared.part.Part.TheVariants.{Takes}
use Rattle.arena_server.specs.Parts.{after_enlisting}
use Rattle.arena_server.specs.Senders.{Line, SenderState, line_of, AllSend}
use Rattle.arena_server.specs.Owners.{OwnerState}

-- a line by which nothing was sent
abbrev pub new_line : TableId → Line
new_line q = record { queue = q; sent = [] }

-- so many senders with the numbers from n on, with a line through each queue, by which nothing was sent
abbrev pub new_senders : List TableId → ℕ → ℕ → List SenderState
new_senders queues n zero = []
new_senders queues n (suc count) = record { number = n; lines = map new_line queues } ∷ new_senders queues (suc n) count

-- An owner for each queue, of the arenas from a on. Each has a new pass of its arena's number, and has taken nothing.
abbrev pub new_owners : List Lock → ℕ → ℕ → List TableId → List OwnerState
new_owners locks senders a [] = []
new_owners locks senders a (q ∷ qs) = record { pass = fresh_pass locks a; queue = q; senders = senders; list = []; held = None; skipped = false } ∷ new_owners locks senders (suc a) qs

-- tokens

-- the part once so many more senders were enlisted
abbrev pub after_enlisting_all : Part → ℕ → Part
after_enlisting_all p zero = p
after_enlisting_all p (suc k) = after_enlisting_all (after_enlisting p) k

-- rows of tokens: each row is of the next sender, and has a token of each queue, by which nothing was sent
abbrev pub AllNewRows : ℕ → List TableId → List (List (Pass Request Part)) → Type 0
AllNewRows n queues [] = Unit {0}
AllNewRows n queues (r ∷ rs) = (AllSend n r × (map line_of r ≡ map new_line queues)) × AllNewRows (suc n) queues rs

-- each row has room for so many more
abbrev pub AllSpace : ℕ → List (ℕ × ℕ) → Type 0
AllSpace k [] = Unit {0}
AllSpace k (r ∷ rs) = (r.0 + k ≤ r.1) × AllSpace k rs

-- each token takes from its queue, for so many senders, and has taken nothing
abbrev pub AllNewTakers : List TableId → ℕ → List (Pass Request Part) → Type 0
AllNewTakers [] n [] = Unit {0}
AllNewTakers (q ∷ qs) n (t ∷ ts) = ((t.table_id ≡ q) × (t.me.1 ≡ []) × (view t ≡ Takes n [] [])) × AllNewTakers qs n ts
AllNewTakers qs n ts = ⊥
