-- Journals that are told with the numbers of those who sent the requests.
use Rattle.std.proofs.Common.{◌≡◌, ℕ, zero, suc, ◌+◌, ◌<◌, ◌==◌, Bool, true, false, if◌then◌else◌, List, [], ◌∷◌, ◌++◌, map, length, take, get_or, set, refl, ap, sym, ◌∙◌, subst, arith}
use Rattle.serve_runs.proofs.Common.{append-nil, Call, Entry, ArenaState, calls_by, by_owner, calls_in, Request, of, made}
use Rattle.arena_server.specs.Closed.{AllBear}
use Rattle.arena_server.specs.Owners.{asked}
use Rattle.serve_runs.specs.Clerks.{senders_of}
use Rattle.serve_runs.specs.Signed.{signed, all_signed, AllFit}
use Rattle.serve_runs.proofs.Moves.{carried}

pub length_signed : (ns : List ℕ) (es : List Entry) → length (signed ns es) ≡ length es
length_signed [] es = refl
length_signed (n ∷ ns) [] = refl
length_signed (n ∷ ns) (e ∷ es) = ap suc (length_signed ns es)

-- by its owner's seat each entry is what it was

owner_alone : (a : ℕ) (es : List Entry) → AllBear a es → by_owner a es ≡ es
owner_alone a [] h = refl
owner_alone a (e ∷ es) h = λ i. record e { seat = sym h.0 i } ∷ owner_alone a es h.1 i

pub owner_signed : (a : ℕ) (ns : List ℕ) (es : List Entry) → AllBear a es → by_owner a (signed ns es) ≡ es
owner_signed a [] es h = owner_alone a es h
owner_signed a (n ∷ ns) [] h = refl
owner_signed a (n ∷ ns) (e ∷ es) h = λ i. record e { seat = sym h.0 i } ∷ owner_signed a ns es h.1 i

-- a sender's entries answer its requests

put_both : (b : Bool) (e : Entry) (es : List Entry) (r : Request) (rs : List Request) → e.call ≡ r.call → calls_in es ≡ asked rs → calls_in (if b then e ∷ es else es) ≡ asked (if b then r ∷ rs else rs)
put_both true e es r rs one rest = λ i. one i ∷ rest i
put_both false e es r rs one rest = rest

pub calls_signed : (t : ℕ) (rs : List Request) (es : List Entry) → made es ≡ asked rs → calls_in (calls_by t (signed (senders_of rs) es)) ≡ asked (of t rs)
calls_signed t [] [] same = refl
calls_signed t [] (e ∷ es) same = absurd (cc (same))
calls_signed t (r ∷ rs) [] same = absurd (cc (same))
calls_signed t (r ∷ rs) (e ∷ es) same =
    let one : e.call ≡ r.call = cc (same) in
    let rest : made es ≡ asked rs = cc (same) in
    put_both (r.sender == t) (record e { seat = r.sender }) (calls_by t (signed (senders_of rs) es)) r (of t rs) one (calls_signed t rs es rest)

-- the numbers are put in one by one
pub sign_more : (k : ℕ) (ns : List ℕ) (es : List Entry) (d : Entry) → k < length ns → length ns ≡ length es →
    set (signed (take k ns) es) k (record (get_or (signed (take k ns) es) k d) { seat = get_or ns k 0 }) ≡ signed (take (k + 1) ns) es
sign_more k ns es d here same = one k ns es here same ∙ ap (λ n. signed (take n ns) es) (let next : suc k ≡ k + 1 = omega arith in next)
  where
    one : (k : ℕ) (ns : List ℕ) (es : List Entry) → k < length ns → length ns ≡ length es → set (signed (take k ns) es) k (record (get_or (signed (take k ns) es) k d) { seat = get_or ns k 0 }) ≡ signed (take (suc k) ns) es
    one k [] es here same = absurd (omega (arith, here))
    one k (n ∷ ns) [] here same = absurd (omega (arith, same))
    one zero (n ∷ ns) (e ∷ es) here same = refl
    one (suc k) (n ∷ ns) (e ∷ es) here same = ap (λ (rest : List Entry). record e { seat = n } ∷ rest) (one k ns es (omega (arith, here)) (omega (arith, same)))

-- where there is a desk there are notes for it
pub fit_some : (nss : List (List ℕ)) (cs : List (List Entry × ArenaState)) → AllFit nss cs → length nss ≡ length cs
fit_some [] [] h = refl
fit_some [] (c ∷ cs) h = absurd h
fit_some (ns ∷ nss) [] h = absurd h
fit_some (ns ∷ nss) (c ∷ cs) h = ap suc (fit_some nss cs h.1)

-- one arena further

pub fit_next : (nss rest : List (List ℕ)) (ns : List ℕ) (cs more : List (List Entry × ArenaState)) (c : List Entry × ArenaState) → nss ≡ ns ∷ rest → cs ≡ c ∷ more → AllFit nss cs → (length ns ≡ length c.0) × AllFit rest more
fit_next nss rest ns cs more c notes desks h = subst (λ (z : List (List ℕ) × List (List Entry × ArenaState)). AllFit z.0 z.1) (λ i. (notes i, desks i)) h

pub signed_next : (nss rest : List (List ℕ)) (ns : List ℕ) (cs more : List (List Entry × ArenaState)) (c : List Entry × ArenaState) (done next all : List (List Entry × ArenaState)) → nss ≡ ns ∷ rest → cs ≡ c ∷ more → next ≡ done ++ (signed ns c.0, c.1) ∷ []
    → done ++ all_signed nss cs ≡ all → next ++ all_signed rest more ≡ all
signed_next nss rest ns cs more c done next all notes desks pushed is = carried done next all (all_signed nss cs) (all_signed rest more) (signed ns c.0, c.1) (λ i. all_signed (notes i) (desks i)) pushed is

-- all were told
pub signed_none : (nss : List (List ℕ)) (cs done all : List (List Entry × ArenaState)) → length cs ≡ 0 → AllFit nss cs → done ++ all_signed nss cs ≡ all → done ≡ all
signed_none nss (c ∷ cs) done all none fit is = absurd (omega (arith, none))
signed_none [] [] done all none fit is = sym (append-nil done) ∙ is
signed_none (ns ∷ nss) [] done all none fit is = absurd fit
