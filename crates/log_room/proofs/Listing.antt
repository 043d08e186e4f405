-- Lists of chunks as they grow.
use Rattle.std.proofs.Common.{◌≡◌, ◌+◌, ◌-◌, ◌*◌, ◌^◌, ◌<◌, ◌≤◌, ⊎_elim, ℕ, zero, suc, true, false, not, cond, eqb, List, [], ◌∷◌, ◌++◌, length, get_or, take, drop, refl, sym, ap, ◌∙◌, arith, append-nil, drop-cons}
use Rattle.log_room.proofs.Common.{All, list_any, eq-eqb, ne_eqb, or_parts, or_cases, eqb-true, eqb-false, cases_Bool, filter-append, All-head, All-tail, All-drop, directory_of}
use Rattle.std.proofs.lemmas.List.{take-append-le, length-take, length-drop}
use Rattle.log_room.specs.Chunks.{without, chunks_from, left_by, all_chunks, spare_chunks}

-- one chunk more
from_suc : (chunk n : ℕ) → chunks_from chunk (suc n) ≡ chunks_from chunk n ++ (chunk + n) ∷ []
from_suc chunk zero = let e : chunk ≡ chunk + 0 = omega arith in ap (λ c. c ∷ []) e
from_suc chunk (suc n) = let e : chunk + 1 + n ≡ chunk + suc n = omega arith in ap (λ cs. chunk ∷ cs) (from_suc (chunk + 1) n ∙ ap (λ c. chunks_from (chunk + 1) n ++ c ∷ []) e)

from_more : (chunk n : ℕ) → chunks_from chunk (n + 1) ≡ chunks_from chunk n ++ (chunk + n) ∷ []
from_more chunk n = let e : n + 1 ≡ suc n = omega arith in ap (chunks_from chunk) e ∙ from_suc chunk n

left_append : (taken xs ys : List ℕ) → left_by taken (xs ++ ys) ≡ left_by taken xs ++ left_by taken ys
left_append [] xs ys = refl
left_append (t ∷ taken) xs ys = ap (without t) (left_append taken xs ys) ∙ filter-append (λ c. not (eqb c t)) (left_by taken xs) (left_by taken ys)

left_none : (taken : List ℕ) → left_by taken [] ≡ []
left_none [] = refl
left_none (t ∷ taken) = ap (without t) (left_none taken)

-- one that is taken is not left
left_taken : (taken : List ℕ) (chunk : ℕ) → list_any (λ t. eqb t chunk) taken ≡ true → left_by taken (chunk ∷ []) ≡ []
left_taken [] chunk is = absurd (cc)
left_taken (t ∷ taken) chunk is = ⊎_elim
    (λ (later : list_any (λ t. eqb t chunk) taken ≡ true). ap (without t) (left_taken taken chunk later))
    (λ (later : list_any (λ t. eqb t chunk) taken ≡ false).
    ap (without t) (left_free taken chunk later)
    ∙ ap (λ b. cond (not b) (chunk ∷ []) []) (eq-eqb chunk t (sym (here t taken chunk is later))))
    (cases_Bool (list_any (λ t. eqb t chunk) taken))
  where
    left_free : (taken : List ℕ) (chunk : ℕ) → list_any (λ t. eqb t chunk) taken ≡ false → left_by taken (chunk ∷ []) ≡ chunk ∷ []
    left_free [] chunk is = refl
    left_free (t ∷ taken) chunk is =
        let parts = or_parts (eqb t chunk) (list_any (λ t. eqb t chunk) taken) is in
        ap (without t) (left_free taken chunk parts.1) ∙ ap (λ b. cond (not b) (chunk ∷ []) []) (ne_eqb chunk t (λ e. eqb-false t chunk parts.0 (sym e)))

    here : (t : ℕ) (taken : List ℕ) (chunk : ℕ) → list_any (λ t. eqb t chunk) (t ∷ taken) ≡ true → list_any (λ t. eqb t chunk) taken ≡ false → t ≡ chunk
    here t taken chunk is none = ⊎_elim (λ e. eqb-true t chunk e) (λ later. absurd (cc)) (or_cases (eqb t chunk) (list_any (λ t. eqb t chunk) taken) is)

-- any other is left
left_free : (taken : List ℕ) (chunk : ℕ) → list_any (λ t. eqb t chunk) taken ≡ false → left_by taken (chunk ∷ []) ≡ chunk ∷ []
left_free [] chunk is = refl
left_free (t ∷ taken) chunk is =
    let parts = or_parts (eqb t chunk) (list_any (λ t. eqb t chunk) taken) is in
    ap (without t) (left_free taken chunk parts.1) ∙ ap (λ b. cond (not b) (chunk ∷ []) []) (ne_eqb chunk t (λ e. eqb-false t chunk parts.0 (sym e)))

left_more : (taken : List ℕ) (n : ℕ) → left_by taken (chunks_from 0 (n + 1)) ≡ left_by taken (chunks_from 0 n) ++ left_by taken (n ∷ [])
left_more taken n =
    let e : 0 + n ≡ n = omega arith in
    ap (left_by taken) (from_more 0 n ∙ ap (λ c. chunks_from 0 n ++ c ∷ []) e) ∙ left_append taken (chunks_from 0 n) (n ∷ [])

-- at most so many of a list that grows
take_push : (n : ℕ) (xs : List ℕ) (x : ℕ) → length (take n xs) < n → take n (xs ++ x ∷ []) ≡ take n xs ++ x ∷ []
take_push zero xs x short = absurd (omega arith)
take_push (suc n) [] x short = ap (λ ys. x ∷ ys) (take_none n)
  where
    take_none : (n : ℕ) → take {A = ℕ} n [] ≡ []
    take_none zero = refl
    take_none (suc n) = refl
take_push (suc n) (y ∷ xs) x short = ap (λ ys. y ∷ ys) (take_push n xs x (omega arith))

-- the spare chunks with one that is spare
pub spare_more : (active : List ℕ) (count n : ℕ) (spare : List ℕ) → spare ≡ take count (left_by active (chunks_from 0 n)) → length spare < count → list_any (λ t. eqb t n) active ≡ false →
    spare ++ n ∷ [] ≡ take count (left_by active (chunks_from 0 (n + 1)))
spare_more active count n spare is short free =
    let before = left_by active (chunks_from 0 n) in
    ap (λ xs. xs ++ n ∷ []) is
    ∙ sym (take_push count before n (omega (arith, short, ap length is)))
    ∙ ap (take count) (ap (λ xs. before ++ xs) (sym (left_free active n free)) ∙ sym (left_more active n))

-- with one that is active
pub spare_same : (active : List ℕ) (count n : ℕ) (spare : List ℕ) → spare ≡ take count (left_by active (chunks_from 0 n)) → list_any (λ t. eqb t n) active ≡ true →
    spare ≡ take count (left_by active (chunks_from 0 (n + 1)))
spare_same active count n spare is taken =
    let before = left_by active (chunks_from 0 n) in
    is ∙ ap (take count) (sym (append-nil before) ∙ ap (λ xs. before ++ xs) (sym (left_taken active n taken)) ∙ sym (left_more active n))

-- where there are enough
pub spare_full : (active : List ℕ) (count n : ℕ) (spare : List ℕ) → spare ≡ take count (left_by active (chunks_from 0 n)) → count ≤ length spare →
    spare ≡ take count (left_by active (chunks_from 0 (n + 1)))
spare_full active count n spare is enough =
    let before = left_by active (chunks_from 0 n) in
    is ∙ sym (ap (take count) (left_more active n) ∙ take-append-le count before (left_by active (n ∷ [])) (omega (arith, enough, ap length is, length-take count before)))

sixteen : all_chunks ≡ 16
unfolding all_chunks
sixteen = refl

-- all of them
pub spare_all : (active : List ℕ) (count n : ℕ) (spare : List ℕ) → spare ≡ take count (left_by active (chunks_from 0 n)) → 16 ≤ n → n ≤ 16 → spare ≡ take count (spare_chunks active)
spare_all active count n spare is low high = let e : n ≡ all_chunks = omega (arith, sixteen) in is ∙ ap (λ k. take count (left_by active (chunks_from 0 k))) e

-- none yet
pub spare_none : (active : List ℕ) (count : ℕ) → [] ≡ take count (left_by active (chunks_from 0 0))
spare_none active count = sym (ap (take count) (left_none active) ∙ none count)
  where
    none : (n : ℕ) → take {A = ℕ} n [] ≡ []
    none zero = refl
    none (suc n) = refl

-- the directory

directory_below : (n : ℕ) (chunks : List ℕ) → length chunks ≤ n → All (λ c. c < 16) chunks → directory_of chunks < 256 ^ n
directory_below n [] few small = power n
  where
    power : (n : ℕ) → 0 < 256 ^ n
    power zero = omega arith
    power (suc n) = omega (arith, power n)
directory_below zero (c ∷ chunks) few small = absurd (omega arith)
directory_below (suc n) (c ∷ chunks) few small =
    omega (arith, All-head (λ c. c < 16) c chunks small, directory_below n chunks (omega arith) (All-tail (λ c. c < 16) c chunks small))

-- the directory with one chunk more in front
pub directory_more : (chunks : List ℕ) (i : ℕ) → i < length chunks → directory_of (drop (length chunks - (i + 1)) chunks) ≡ 256 * directory_of (drop (length chunks - i) chunks) + get_or chunks (length chunks - 1 - i) 0 + 1
directory_more chunks i inside =
    let k = length chunks - (i + 1) in
    let next : length chunks - i ≡ suc k = omega arith in
    let here : length chunks - 1 - i ≡ k = omega arith in
    let split : drop k chunks ≡ get_or chunks k 0 ∷ drop (suc k) chunks = drop-cons chunks k 0 (omega arith) in
    rw (next, here) (ap directory_of split ∙ swap (get_or chunks k 0) (directory_of (drop (suc k) chunks)))
  where
    swap : (a b : ℕ) → a + 1 + 256 * b ≡ 256 * b + a + 1
    swap a b = omega arith

-- it fits a word
pub directory_fits : (chunks : List ℕ) (k : ℕ) → length chunks ≤ 8 → All (λ c. c < 16) chunks → directory_of (drop k chunks) < 2 ^ 64
directory_fits chunks k few small = directory_below 8 (drop k chunks) (omega (arith, length-drop k chunks)) (All-drop (λ c. c < 16) k chunks small)
