-- Two lists that agree on each sender are of one length.
use Rattle.std.proofs.Common.{◌≡◌, ◌≢◌, ℕ, zero, suc, ◌+◌, ◌<◌, ◌≤◌, ◌==◌, ◌||◌, ◌⊎◌, inl, inr, Bool, true, false, if◌then◌else◌, List, [], ◌∷◌, length, map, refl, ap, sym, ◌∙◌, subst, eq-eqb, ne_eqb, eqb-true, arith}
use Rattle.arena_server.proofs.Common.{false≢true, is_in, HasAll}
use Rattle.arena_server.specs.declared.request.Request.{Request}
use Rattle.arena_server.specs.declared.part.Ended.{Ended}
use Rattle.arena_server.specs.Requests.{of, AllOfSenders}
use Rattle.arena_server.specs.Parts.{AllEnded, IsWhole}

-- how many of these requests are of the senders below n
abbrev count_below : ℕ → List Request → ℕ
count_below zero rs = 0
count_below (suc n) rs = length (of n rs) + count_below n rs

skips : (n : ℕ) (r : Request) (rs : List Request) → n ≤ r.sender → count_below n (r ∷ rs) ≡ count_below n rs
skips zero r rs l = refl
skips (suc n) r rs l =
    let other : r.sender ≢ n = λ e. absurd (omega (arith, l, e)) in
    let one : length (of n (r ∷ rs)) ≡ length (of n rs) = ap (λ (b : Bool). length (if b then r ∷ of n rs else of n rs)) (ne_eqb r.sender n other) in
    let rest : count_below n (r ∷ rs) ≡ count_below n rs = skips n r rs (omega (arith, l)) in
    omega (arith, one, rest)

last_or : (k n : ℕ) → k < suc n → (k ≡ n) ⊎ (k < n)
last_or zero zero l = inl refl
last_or zero (suc n) l = inr (omega arith)
last_or (suc k) zero l = absurd (omega arith)
last_or (suc k) (suc n) l = up (last_or k n (omega arith))
  where
    up : (k ≡ n) ⊎ (k < n) → (suc k ≡ suc n) ⊎ (suc k < suc n)
    up (inl e) = inl (ap suc e)
    up (inr m) = inr (omega arith)

counts_at : (n : ℕ) (r : Request) (rs : List Request) → (r.sender ≡ n) ⊎ (r.sender < n) → (r.sender < n → count_below n (r ∷ rs) ≡ suc (count_below n rs)) → count_below (suc n) (r ∷ rs) ≡ suc (count_below (suc n) rs)
counts_at n r rs (inl e) more =
    let one : length (of n (r ∷ rs)) ≡ suc (length (of n rs)) = ap (λ (b : Bool). length (if b then r ∷ of n rs else of n rs)) (eq-eqb r.sender n e) in
    let rest : count_below n (r ∷ rs) ≡ count_below n rs = skips n r rs (omega (arith, e)) in
    omega (arith, one, rest)
counts_at n r rs (inr l) more =
    let other : r.sender ≢ n = λ e. absurd (omega (arith, l, e)) in
    let one : length (of n (r ∷ rs)) ≡ length (of n rs) = ap (λ (b : Bool). length (if b then r ∷ of n rs else of n rs)) (ne_eqb r.sender n other) in
    let rest : count_below n (r ∷ rs) ≡ suc (count_below n rs) = more l in
    omega (arith, one, rest)

counts : (n : ℕ) (r : Request) (rs : List Request) → r.sender < n → count_below n (r ∷ rs) ≡ suc (count_below n rs)
counts zero r rs l = absurd (omega arith)
counts (suc n) r rs l = counts_at n r rs (last_or r.sender n l) (counts n r rs)

none_counted : (n : ℕ) → count_below n [] ≡ 0
none_counted zero = refl
none_counted (suc n) = omega (arith, none_counted n)

all_counted : (n : ℕ) (rs : List Request) → AllOfSenders n rs → count_below n rs ≡ length rs
all_counted n [] h = none_counted n
all_counted n (r ∷ rs) h = counts n r rs h.0 ∙ ap suc (all_counted n rs h.1)

same_counted : (n : ℕ) (xs ys : List Request) → ((s : ℕ) → s < n → of s xs ≡ of s ys) → count_below n xs ≡ count_below n ys
same_counted zero xs ys h = refl
same_counted (suc n) xs ys h =
    let one : length (of n xs) ≡ length (of n ys) = ap length (h n (omega arith)) in
    let rest : count_below n xs ≡ count_below n ys = same_counted n xs ys (λ s l. h s (omega (arith, l))) in
    omega (arith, one, rest)

-- what a sender that has ended put in is the same, however much was taken out

found_in : (s : ℕ) (e : Ended) (xs ys : List Request) (b more : Bool) → (e.sender == s) ≡ b → b || more ≡ true → e.sent ≡ of e.sender xs → e.sent ≡ of e.sender ys → (more ≡ true → of s xs ≡ of s ys) → of s xs ≡ of s ys
found_in s e xs ys true more is h p q rest = subst (λ n. of n xs ≡ of n ys) (eqb-true e.sender s is) (sym p ∙ q)
found_in s e xs ys false more is h p q rest = rest h

found : (s n : ℕ) (es : List Ended) (xs ys : List Request) → is_in s (map (λ e. e.sender) es) ≡ true → AllEnded n es xs → AllEnded n es ys → of s xs ≡ of s ys
found s n [] xs ys has p q = absurd (false≢true has)
found s n (e ∷ es) xs ys has p q = found_in s e xs ys (e.sender == s) (is_in s (map (λ e. e.sender) es)) refl has p.0.1 q.0.1 (λ h. found s n es xs ys h p.1 q.1)

-- two lists of requests of these senders that agree on each of them are of one length
pub same_senders : (n : ℕ) (xs ys : List Request) → AllOfSenders n xs → AllOfSenders n ys → ((s : ℕ) → s < n → of s xs ≡ of s ys) → length xs ≡ length ys
same_senders n xs ys p q same = sym (all_counted n xs p) ∙ (same_counted n xs ys same ∙ all_counted n ys q)

pub same_length : (n : ℕ) (es : List Ended) (xs ys : List Request) → HasAll n (map (λ e. e.sender) es) → IsWhole n es xs → IsWhole n es ys → length xs ≡ length ys
same_length n es xs ys all p q = same_senders n xs ys p.enlisted q.enlisted (λ s l. found s n es xs ys (all s l) p.sent q.sent)
