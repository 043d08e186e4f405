-- Owners, their passes and the rest of them.
use Rattle.std.proofs.Common.{◌≡◌, List, [], ◌∷◌, ◌++◌, map, length, get_or, refl, ap, sym, ◌∙◌, suc, subst, append_assoc}
use Rattle.arena_server.proofs.Common.{Lock, PassState, AllFitLocks}
use Rattle.arena_server.specs.declared.owner.Till.{Till}
use Rattle.arena_server.specs.Senders.{nowhere}
use Rattle.arena_server.specs.Owners.{OwnerState, owner_of, IsOwner}
use Rattle.arena_server.specs.Closed.{owner_numbers}
use Rattle.arena_server.specs.Emptied.{owners_of, AllOwners, arenas_of, AllTakeThere}
use Rattle.arena_server.specs.Servers.{ServerState, AllOwnersOf}

pub owners_more : (ps : List PassState) (ts : List Till) (p : PassState) (t : Till) → AllOwners ps ts → owners_of (ps ++ p ∷ []) (ts ++ t ∷ []) ≡ owners_of ps ts ++ owner_of p t ∷ []
owners_more [] [] p t h = refl
owners_more [] (u ∷ us) p t h = absurd h
owners_more (q ∷ qs) [] p t h = absurd h
owners_more (q ∷ qs) (u ∷ us) p t h = ap (λ l. owner_of q u ∷ l) (owners_more qs us p t h.1)

all_more : (ps : List PassState) (ts : List Till) (p : PassState) (t : Till) → AllOwners ps ts → IsOwner p t → AllOwners (ps ++ p ∷ []) (ts ++ t ∷ [])
all_more [] [] p t h k = (k, tt)
all_more [] (u ∷ us) p t h k = absurd h
all_more (q ∷ qs) [] p t h k = absurd h
all_more (q ∷ qs) (u ∷ us) p t h k = (h.0, all_more qs us p t h.1 k)

pub all_pushed : (ps next : List PassState) (ts more : List Till) (p : PassState) (t : Till) → next ≡ ps ++ p ∷ [] → more ≡ ts ++ t ∷ [] → AllOwners ps ts → IsOwner p t → AllOwners next more
all_pushed ps next ts more p t a b h k = subst (λ (z : List PassState × List Till). AllOwners z.0 z.1) (λ i. (sym a i, sym b i)) (all_more ps ts p t h k)

pub owners_pushed : (ps next : List PassState) (ts more : List Till) (p : PassState) (t : Till) (o : OwnerState) (os rest goal : List OwnerState) → next ≡ ps ++ p ∷ [] → more ≡ ts ++ t ∷ [] → AllOwners ps ts → owner_of p t ≡ o → os ≡ o ∷ rest → owners_of ps ts ++ os ≡ goal → owners_of next more ++ rest ≡ goal
owners_pushed ps next ts more p t o os rest goal a b h is whole e =
    ap (λ l. l ++ rest) ((λ i. owners_of (a i) (b i)) ∙ owners_more ps ts p t h) ∙ (append_assoc (owners_of ps ts) (owner_of p t ∷ []) rest
    ∙ (ap (λ z. owners_of ps ts ++ z ∷ rest) is ∙ (ap (λ l. owners_of ps ts ++ l) (sym whole) ∙ e)))

pub as_many_tills : (ps : List PassState) (ts : List Till) → AllOwners ps ts → length ts ≡ length ps
as_many_tills [] [] h = refl
as_many_tills [] (u ∷ us) h = absurd h
as_many_tills (q ∷ qs) [] h = absurd h
as_many_tills (q ∷ qs) (u ∷ us) h = ap suc (as_many_tills qs us h.1)

pub owners_joined : (os next : List OwnerState) (ps rest : List PassState) (ts more : List Till) (p : PassState) (t : Till) (o : OwnerState) (goal : List OwnerState) → next ≡ os ++ o ∷ [] → ps ≡ p ∷ rest → ts ≡ t ∷ more → owner_of p t ≡ o → os ++ owners_of ps ts ≡ goal → next ++ owners_of rest more ≡ goal
owners_joined os next ps rest ts more p t o goal pushed a b is e =
    ap (λ l. l ++ owners_of rest more) pushed ∙ (append_assoc os (o ∷ []) (owners_of rest more) ∙ (ap (λ z. os ++ z ∷ owners_of rest more) (sym is) ∙ ((λ i. os ++ owners_of (sym a i) (sym b i)) ∙ e)))

pub owners_left : (ps rest : List PassState) (ts more : List Till) (p : PassState) (t : Till) → ps ≡ p ∷ rest → ts ≡ t ∷ more → AllOwners ps ts → IsOwner p t × AllOwners rest more
owners_left ps rest ts more p t a b h = subst (λ (z : List PassState × List Till). AllOwners z.0 z.1) (λ i. (a i, b i)) h

-- all owners of a server

pub fit_locks : (server : ServerState) (ps : List PassState) (ts : List Till) → AllOwners ps ts → AllOwnersOf server (owners_of ps ts) → AllFitLocks (map (λ (l : Lock). l.id) server.pool.locks) ps
fit_locks server [] ts h of = tt
fit_locks server (q ∷ qs) [] h of = absurd h
fit_locks server (q ∷ qs) (u ∷ us) h of = (of.0.pass, fit_locks server qs us h.1 of.1)

-- owners and their parts bear the same numbers

pub numbers_same : (ps : List PassState) (ts : List Till) → AllOwners ps ts → owner_numbers (owners_of ps ts) ≡ map (λ p. p.number) ps
numbers_same [] ts h = refl
numbers_same (p ∷ ps) [] h = absurd h
numbers_same (p ∷ ps) (t ∷ ts) h = ap (λ ns. p.number ∷ ns) (numbers_same ps ts h.1)

pub arenas_same : (ps : List PassState) (ts : List Till) → AllOwners ps ts → arenas_of ts ≡ map (λ p. p.number) ps
arenas_same [] [] h = refl
arenas_same [] (t ∷ ts) h = absurd h
arenas_same (p ∷ ps) [] h = absurd h
arenas_same (p ∷ ps) (t ∷ ts) h = λ i. h.0.arena i ∷ arenas_same ps ts h.1 i

-- each takes from the queue of its arena
pub take_there : (server : ServerState) (ps : List PassState) (ts : List Till) → AllOwners ps ts → AllOwnersOf server (owners_of ps ts) → AllTakeThere server.queues server.senders ts
take_there server [] [] h of = tt
take_there server [] (t ∷ ts) h of = absurd h
take_there server (p ∷ ps) [] h of = absurd h
take_there server (p ∷ ps) (t ∷ ts) h of = (
  record {
    till = h.0.till;
    queue = of.0.queue ∙ ap (λ n. get_or server.queues n nowhere) (sym h.0.arena);
    senders = of.0.senders;
  },
  take_there server ps ts h.1 of.1,
)
