-- The entries among a row of words, and the chunks that a directory names.
use Rattle.std.proofs.Common.{◌≡◌, ◌≢◌, ◌<◌, ◌≤◌, ◌-◌, ◌/◌, ◌%◌, ⊎_elim, ℕ, zero, suc, true, false, cond, ltb, leb, List, [], ◌∷◌, ◌++◌, refl, sym, ap, ◌∙◌, subst, arith, append-nil, flat_map}
use Rattle.std.specs.List.{All}
use Rattle.std.proofs.lemmas.Bool.{cases_lt, cases_Bool, cond-true, cond-false, ne_eqb, and_parts, ltb-true, leb-true}
use Rattle.std.proofs.lemmas.List.Elements.{All-nil, All-cons, All-head, All-tail}
use Rattle.image_tables.specs.Log.{most_chunks, is_chunk_byte, chunks_named, active_chunks, entry_or_none, entries_below}

-- rows that agree below n have the same entries there
pub entries_below-same : (f h : ℕ → ℕ) (n : ℕ) → ((i : ℕ) → i < n → h i ≡ f i) → entries_below h n ≡ entries_below f n
entries_below-same f h zero same = refl
entries_below-same f h (suc n) same =
    ap (λ x. x ++ entry_or_none (h n)) (entries_below-same f h n (λ i less. same i (omega arith)))
    ∙ ap (λ w. entries_below f n ++ entry_or_none w) (same n (omega arith))

-- words of zero add no entry
pub entries_below-zeros : (f : ℕ → ℕ) (n m : ℕ) → n ≤ m → ((i : ℕ) → n ≤ i → i < m → f i ≡ 0) → entries_below f m ≡ entries_below f n
entries_below-zeros f n zero less zeros = let e : 0 ≡ n = omega arith in ap (entries_below f) e
entries_below-zeros f n (suc m) less zeros = ⊎_elim
    (λ (lower : m < n). let e : suc m ≡ n = omega arith in ap (entries_below f) e)
    (λ (behind : n ≤ m).
    ap (λ w. entries_below f m ++ entry_or_none w) (zeros m behind (omega arith))
    ∙ append-nil (entries_below f m)
    ∙ entries_below-zeros f n m behind (λ i low high. zeros i low (omega arith)))
    (cases_lt m n)

-- a word put at the end of the entries is one more
pub entries_below-put : (f h : ℕ → ℕ) (n m v : ℕ) → n < m → v ≢ 0 → h n ≡ v → ((i : ℕ) → i < m → i ≢ n → h i ≡ f i) → ((i : ℕ) → n ≤ i → i < m → f i ≡ 0) →
    entries_below h m ≡ entries_below f m ++ v ∷ []
entries_below-put f h n m v less some new others zeros =
    entries_below-zeros h (suc n) m (omega arith) (λ i low high. others i high (λ e. omega arith) ∙ zeros i (omega arith) high)
    ∙ ap (λ w. entries_below h n ++ entry_or_none w) new
    ∙ ap (λ b. entries_below h n ++ cond b [] (v ∷ [])) (ne_eqb v 0 some)
    ∙ ap (λ x. x ++ v ∷ []) (entries_below-same f h n (λ i below. others i (omega arith) (λ e. omega arith)) ∙ sym (entries_below-zeros f n m (omega arith) zeros))

few_named : (n word : ℕ) → All (λ chunk. chunk < 16) (chunks_named n word)
few_named zero word = All-nil (λ chunk. chunk < 16)
few_named (suc n) word =
    let byte = word % 256 in
    let Few : List ℕ → Type 0 = λ chunks. All (λ chunk. chunk < 16) chunks in
    ⊎_elim
    (λ (is : is_chunk_byte byte ≡ true).
    let parts = and_parts (ltb 0 byte) (leb byte 16) is in
    let low = leb-true byte 16 parts.1 in
    subst Few (sym (cond-true (is_chunk_byte byte) ((byte - 1) ∷ chunks_named n (word / 256)) [] is))
    (All-cons (λ chunk. chunk < 16) (byte - 1) (chunks_named n (word / 256)) (omega (arith, ltb-true 0 byte parts.0, low)) (few_named n (word / 256))))
    (λ (is : is_chunk_byte byte ≡ false). subst Few (sym (cond-false (is_chunk_byte byte) ((byte - 1) ∷ chunks_named n (word / 256)) [] is)) (All-nil (λ chunk. chunk < 16)))
    (cases_Bool (is_chunk_byte byte))

-- there are sixteen chunks
pub few_chunks : (directory : ℕ) → All (λ chunk. chunk < 16) (active_chunks directory)
unfolding active_chunks
few_chunks directory = few_named most_chunks directory

-- the same lists joined
pub flat_map-same : (f h : ℕ → List ℕ) (xs : List ℕ) → All (λ x. h x ≡ f x) xs → flat_map h xs ≡ flat_map f xs
flat_map-same f h [] same = refl
flat_map-same f h (x ∷ xs) same =
    ap (λ ys. ys ++ flat_map h xs) (All-head (λ x. h x ≡ f x) x xs same)
    ∙ ap (λ ys. f x ++ ys) (flat_map-same f h xs (All-tail (λ x. h x ≡ f x) x xs same))
