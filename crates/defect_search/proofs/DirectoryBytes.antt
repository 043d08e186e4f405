-- The bytes of a directory, one after another, and the chunks that they name.
use Rattle.std.proofs.Common.{◌≡◌, ◌≢◌, ◌↔◌, ℕ, zero, suc, ◌+◌, ◌-◌, ◌*◌, ◌/◌, ◌%◌, ◌<◌, ◌≤◌, Bool, true, false, cond, ltb, leb, List, [], ◌∷◌, length, get_or, refl, sym, ap, subst, ◌∙◌, arith, ⊎_elim}
use Rattle.defect_search.proofs.Common.{All, AllPairs, ltb-true, leb-true, and_parts, cond-true, cond-false, cases_eq, get_or_default, directory_of}
use Rattle.std.proofs.lemmas.List.Elements.{All-nil, All-cons}
use Rattle.image_tables.specs.Log.{most_chunks, is_chunk_byte, chunks_named, active_chunks}
use Rattle.book_log.proofs.Directories.{eight}

-- a word is the directory of the chunks that its first n bytes name
abbrev pub IsWhole : ℕ → ℕ → Type 0
IsWhole n word = word ≡ directory_of (chunks_named n word)

named_if : (n word : ℕ) → is_chunk_byte (word % 256) ≡ true → directory_of (chunks_named (suc n) word) ≡ word % 256 - 1 + 1 + 256 * directory_of (chunks_named n (word / 256))
named_if n word is = ap directory_of (cond-true (is_chunk_byte (word % 256)) ((word % 256 - 1) ∷ chunks_named n (word / 256)) [] is)

some_byte : (byte : ℕ) → is_chunk_byte byte ≡ true → (0 < byte) × (byte ≤ 16)
some_byte byte is = let both = and_parts (ltb 0 byte) (leb byte 16) is in (ltb-true 0 byte both.0, leb-true byte 16 both.1)

pub whole-more : (n word : ℕ) → is_chunk_byte (word % 256) ≡ true → IsWhole (suc n) word ↔ IsWhole n (word / 256)
whole-more n word is =
    let byte = some_byte (word % 256) is in
    let named = named_if n word is in
    let chunks = directory_of (chunks_named n (word / 256)) in
    (λ (whole : word ≡ directory_of (chunks_named (suc n) word)). omega (arith, whole, named, byte.0), λ (rest : word / 256 ≡ chunks). omega (arith, rest, named, byte.0))

pub whole-none : (n word : ℕ) → is_chunk_byte (word % 256) ≡ false → IsWhole (suc n) word ↔ (word ≡ 0)
whole-none n word none =
    let named : directory_of (chunks_named (suc n) word) ≡ 0 = ap directory_of (cond-false (is_chunk_byte (word % 256)) ((word % 256 - 1) ∷ chunks_named n (word / 256)) [] none) in
    (λ whole. whole ∙ named, λ zero. zero ∙ sym named)

-- behind i of the directory's bytes
abbrev pub IsSameWhole : ℕ → ℕ → ℕ → Type 0
IsSameWhole directory i rest = (directory ≡ directory_of (active_chunks directory)) ↔ IsWhole (most_chunks - i) rest

pub same-first : (directory : ℕ) → IsSameWhole directory 0 directory
unfolding active_chunks
same-first directory =
    let e : most_chunks - 0 ≡ most_chunks = omega arith in
    (λ is. subst (λ n. IsWhole n directory) (sym e) is, λ is. subst (λ n. IsWhole n directory) e is)

fewer : (i : ℕ) → i < 8 → most_chunks - i ≡ suc (most_chunks - (i + 1))
fewer i below = omega (arith, eight)

pub same-more : (directory i rest : ℕ) → i < 8 → is_chunk_byte (rest % 256) ≡ true → IsSameWhole directory i rest → IsSameWhole directory (i + 1) (rest / 256)
same-more directory i rest below is same =
    let more = whole-more (most_chunks - (i + 1)) rest is in
    let e = fewer i below in
    (λ whole. more.0 (subst (λ n. IsWhole n rest) e (same.0 whole)), λ whole. same.1 (subst (λ n. IsWhole n rest) (sym e) (more.1 whole)))

pub same-none : (directory i rest : ℕ) → i < 8 → is_chunk_byte (rest % 256) ≡ false → IsSameWhole directory i rest → ((rest ≡ 0) ↔ (directory ≡ directory_of (active_chunks directory)))
same-none directory i rest below none same =
    let last = whole-none (most_chunks - (i + 1)) rest none in
    let e = fewer i below in
    (λ zero. same.1 (subst (λ n. IsWhole n rest) (sym e) (last.1 zero)), λ whole. last.0 (subst (λ n. IsWhole n rest) e (same.0 whole)))

pub same-last : (directory i rest : ℕ) → 8 ≤ i → IsSameWhole directory i rest → ((rest ≡ 0) ↔ (directory ≡ directory_of (active_chunks directory)))
same-last directory i rest all same =
    let e : most_chunks - i ≡ 0 = omega (arith, eight) in
    (λ zero. same.1 (subst (λ n. IsWhole n rest) (sym e) zero), λ whole. subst (λ n. IsWhole n rest) e (same.0 whole))

-- the chunks that are named are few and small

few_named : (n word : ℕ) → length (chunks_named n word) ≤ n
few_named zero word = omega arith
few_named (suc n) word = by (is_chunk_byte (word % 256)) (few_named n (word / 256))
  where
    by : (is : Bool) → length (chunks_named n (word / 256)) ≤ n → length (cond is ((word % 256 - 1) ∷ chunks_named n (word / 256)) []) ≤ suc n
    by true few = omega (arith, few)
    by false few = omega arith

pub few_chunks : (directory : ℕ) → length (active_chunks directory) ≤ 8
unfolding active_chunks
few_chunks directory = omega (arith, few_named most_chunks directory, eight)

small_named : (n word : ℕ) → All (λ chunk. chunk < 16) (chunks_named n word)
small_named zero word = All-nil (λ chunk. chunk < 16)
small_named (suc n) word = by (is_chunk_byte (word % 256)) refl (small_named n (word / 256))
  where
    by : (is : Bool) → is_chunk_byte (word % 256) ≡ is → All (λ chunk. chunk < 16) (chunks_named n (word / 256)) → All (λ chunk. chunk < 16) (cond is ((word % 256 - 1) ∷ chunks_named n (word / 256)) [])
    by true test small = All-cons (λ chunk. chunk < 16) (word % 256 - 1) (chunks_named n (word / 256)) (omega (arith, (some_byte (word % 256) test).0, (some_byte (word % 256) test).1)) small
    by false test small = All-nil (λ chunk. chunk < 16)

pub small_chunks : (directory : ℕ) → All (λ chunk. chunk < 16) (active_chunks directory)
unfolding active_chunks
small_chunks directory = small_named most_chunks directory

-- each stands once

abbrev pub AreNewBelow : List ℕ → ℕ → Type 0
AreNewBelow chunks n = (i j : ℕ) → i < j → j < n → get_or chunks i 0 ≢ get_or chunks j 0

pub new_more : (chunks : List ℕ) (n : ℕ) → AreNewBelow chunks n → ((k : ℕ) → k < n → get_or chunks k 0 ≢ get_or chunks n 0) → AreNewBelow chunks (n + 1)
new_more chunks n before here i j less below = ⊎_elim
    (λ (same : j ≡ n). subst (λ m. get_or chunks i 0 ≢ get_or chunks m 0) (sym same) (here i (omega arith)))
    (λ (other : j ≢ n). before i j less (omega arith))
    (cases_eq j n)

pub pairs_of : (chunks : List ℕ) → AreNewBelow chunks (length chunks) → AllPairs (λ chunk later. chunk ≢ later) chunks
pairs_of chunks new i j d less below same =
    new i j less below (get_or_default chunks i 0 d (omega arith) ∙ same ∙ get_or_default chunks j d 0 below)

pub new_of : (chunks : List ℕ) (n : ℕ) → n < length chunks → AllPairs (λ chunk later. chunk ≢ later) chunks → (k : ℕ) → k < n → get_or chunks k 0 ≢ get_or chunks n 0
new_of chunks n below pairs k before = pairs k n 0 before below
