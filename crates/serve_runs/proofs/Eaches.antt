-- What holds of each item of a list, and of its parts.
use Rattle.std.proofs.Common.{ℕ, zero, suc, ◌<◌, List, [], ◌∷◌, ◌++◌, map, length, get_or, arith, Result, Ok, Err}
use Rattle.serve_runs.proofs.Common.{IfOk, Each, SenderState, ServerState, IsSenderOf, Clerk}
use Rattle.arena_server.specs.Servers.{AllOwnersOf}
use Rattle.serve_runs.specs.Clerks.{AllClerksOf}

pub each_front : {A : Type 0} (P : A → Type 0) (xs ys : List A) → Each P (xs ++ ys) → Each P xs
each_front P [] ys h = tt
each_front P (x ∷ xs) ys h = (h.0, each_front P xs ys h.1)

pub each_back : {A : Type 0} (P : A → Type 0) (xs ys : List A) → Each P (xs ++ ys) → Each P ys
each_back P [] ys h = h
each_back P (x ∷ xs) ys h = each_back P xs ys h.1

pub each_join : {A : Type 0} (P : A → Type 0) (xs ys : List A) → Each P xs → Each P ys → Each P (xs ++ ys)
each_join P [] ys h k = k
each_join P (x ∷ xs) ys h k = (h.0, each_join P xs ys h.1 k)

-- the two that the joins of this crate ask

pub senders_join : (server : ServerState) (xs ys : List SenderState) → Each (λ s. IsSenderOf server s) xs → Each (λ s. IsSenderOf server s) ys → Each (λ s. IsSenderOf server s) (xs ++ ys)
senders_join server xs ys h k = each_join (λ s. IsSenderOf server s) xs ys h k

pub clerks_join : (server : ServerState) (xs ys : List Clerk) → AllClerksOf server xs → AllClerksOf server ys → AllClerksOf server (xs ++ ys)
clerks_join server [] ys h k = k
clerks_join server (x ∷ xs) ys h k = (h.0, clerks_join server xs ys h.1 k)

-- the owners of clerks of the server are owners of it
pub clerks_owners : (server : ServerState) (cs : List Clerk) → AllClerksOf server cs → AllOwnersOf server (map (λ (c : Clerk). c.owner) cs)
clerks_owners server [] h = tt
clerks_owners server (c ∷ cs) h = (h.0, clerks_owners server cs h.1)

pub each_at : {A : Type 0} (P : A → Type 0) (xs : List A) (i : ℕ) (d : A) → i < length xs → Each P xs → P (get_or xs i d)
each_at P [] i d here h = absurd (omega (arith, here))
each_at P (x ∷ xs) zero d here h = h.0
each_at P (x ∷ xs) (suc i) d here h = each_at P xs i d (omega (arith, here)) h.1

-- what follows from it for each
pub each_so : {A : Type 0} (P Q : A → Type 0) (xs : List A) → ((x : A) → P x → Q x) → Each P xs → Each Q xs
each_so P Q [] so h = tt
each_so P Q (x ∷ xs) so h = (so x h.0, each_so P Q xs so h.1)

-- the same of what a function makes of each
pub each_map : {A B : Type 0} (P : B → Type 0) (f : A → B) (xs : List A) → Each (λ x. P (f x)) xs → Each P (map f xs)
each_map P f [] h = tt
each_map P f (x ∷ xs) h = (h.0, each_map P f xs h.1)

pub each_unmap : {A B : Type 0} (P : B → Type 0) (f : A → B) (xs : List A) → Each P (map f xs) → Each (λ x. P (f x)) xs
each_unmap P f [] h = tt
each_unmap P f (x ∷ xs) h = (h.0, each_unmap P f xs h.1)

-- what an Ok implies further
pub ok_so : {X E : Type 0} (r : Result X E) (P Q : X → Type 0) → ((x : X) → P x → Q x) → IfOk r P → IfOk r Q
ok_so (Ok x) P Q so h = so x h
ok_so (Err e) P Q so h = tt
