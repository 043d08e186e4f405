-- Bytes that a source gives and a sink takes, piece by piece.
use Rattle.std.proofs.Common.{◌≡◌, ℕ, zero, suc, ◌+◌, ◌-◌, List, [], ◌∷◌, ◌++◌, length, take, drop, Option, Some, None, sym, ap, ◌∙◌, refl, arith, subst, append_assoc}
use Rattle.std.proofs.lemmas.List.{append-nil, take_rest}
use Rattle.std.proofs.lemmas.Grind.{common_steps}
use Rattle.program_io.specs.Streams.{Gives, Takes, TakesFront}

-- a front is a shorter front and what follows it
pub take-add : (i j : ℕ) (xs : List ℕ) → take (i + j) xs ≡ take i xs ++ take j (drop i xs)
take-add zero j xs = ap (λ n. take n xs) (omega arith)
take-add (suc i) j [] = grind (arith, common_steps)
take-add (suc i) j (x ∷ xs) =
    let next : suc i + j ≡ suc (i + j) = omega arith in
    rw next (ap (λ (ys : List ℕ). x ∷ ys) (take-add i j xs))

-- nothing was given yet
pub Gives-none : (left : Option (List ℕ)) → Gives left left []
Gives-none (Some left) = refl
Gives-none None = tt

-- one piece and then another
pub Gives-then : (a b c : Option (List ℕ)) (xs ys : List ℕ) → Gives a b xs → Gives b c ys → Gives a c (xs ++ ys)
Gives-then (Some a) (Some b) (Some c) xs ys first second = first ∙ ap (λ (zs : List ℕ). xs ++ zs) second ∙ sym (append_assoc xs ys c)
Gives-then (Some a) (Some b) None xs ys first second = absurd second
Gives-then (Some a) None c xs ys first second = absurd first
Gives-then None b c xs ys first second = tt

-- nothing was taken yet
pub Takes-none : (taken : Option (List ℕ)) → Takes taken taken []
Takes-none (Some taken) = ap (λ (xs : List ℕ). Some xs) (sym (append-nil taken))
Takes-none None = tt

-- one piece and then another
pub Takes-then : (a b c : Option (List ℕ)) (xs ys : List ℕ) → Takes a b xs → Takes b c ys → Takes a c (xs ++ ys)
Takes-then (Some a) (Some b) c xs ys first second =
    let same : b ≡ a ++ xs = cc in
    second ∙ ap (λ (zs : List ℕ). Some (zs ++ ys)) same ∙ ap (λ (zs : List ℕ). Some zs) (append_assoc a xs ys)
Takes-then (Some a) None c xs ys first second = absurd (cc)
Takes-then None b c xs ys first second = tt

-- a piece, and then nothing
pub Takes-no_more : (a b c : Option (List ℕ)) (xs : List ℕ) → Takes a b xs → Takes b c [] → Takes a c xs
Takes-no_more a b c xs first second = subst (λ (ys : List ℕ). Takes a c ys) (append-nil xs) (Takes-then a b c xs [] first second)

-- the front of a text
pub TakesFront-take : (old new : Option (List ℕ)) (text : List ℕ) (n : ℕ) → Takes old new (take n text) → TakesFront old new text
TakesFront-take old new text n takes = record { front = take n text; rest = drop n text; split = grind (arith, common_steps); takes = takes }

-- the front of a text, and the front of what follows it
pub Takes-further : (a b c : Option (List ℕ)) (text : List ℕ) (done n : ℕ) → Takes a b (take done text) → Takes b c (take n (take (length text - done) (drop done text))) → Takes a c (take (done + n) text)
Takes-further a b c text done n first second =
    let rest : Takes b c (take n (drop done text)) = subst (λ (xs : List ℕ). Takes b c (take n xs)) (take_rest text done) second in
    subst (λ (xs : List ℕ). Takes a c xs) (sym (take-add done n text)) (Takes-then a b c (take done text) (take n (drop done text)) first rest)
