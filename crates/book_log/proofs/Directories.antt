-- A directory's word names the chunks that it was made of.
use Rattle.std.proofs.Common.{◌≡◌, ◌<◌, ◌≤◌, ◌+◌, ◌-◌, ◌/◌, ◌%◌, ◌&&◌, ℕ, zero, suc, true, cond, leb, List, [], ◌∷◌, length, refl, ap, ◌∙◌, arith}
use Rattle.book_log.proofs.Common.{All, lt-ltb, le-leb, cond-true, All-head, All-tail}
use Rattle.image_tables.specs.Log.{most_chunks, is_chunk_byte, chunks_named, active_chunks}
use Rattle.book_log.specs.Log.{directory_of, IsDirectory}

chunk_byte : (chunk : ℕ) → chunk < 16 → is_chunk_byte (chunk + 1) ≡ true
chunk_byte chunk few = ap (λ b. b && leb (chunk + 1) 16) (lt-ltb 0 (chunk + 1) (omega arith)) ∙ le-leb (chunk + 1) 16 (omega arith)

chunks_named-directory_of : (n : ℕ) (chunks : List ℕ) → length chunks ≤ n → All (λ chunk. chunk < 16) chunks → chunks_named n (directory_of chunks) ≡ chunks
chunks_named-directory_of zero [] fits small = refl
chunks_named-directory_of zero (chunk ∷ chunks) fits small = absurd (omega arith)
chunks_named-directory_of (suc n) [] fits small = refl
chunks_named-directory_of (suc n) (chunk ∷ chunks) fits small =
    let word = directory_of (chunk ∷ chunks) in
    let byte : word % 256 ≡ chunk + 1 = omega (arith, All-head (λ chunk. chunk < 16) chunk chunks small) in
    let rest : word / 256 ≡ directory_of chunks = omega (arith, All-head (λ chunk. chunk < 16) chunk chunks small) in
    let number : chunk + 1 - 1 ≡ chunk = omega arith in
    ap (λ b. cond (is_chunk_byte b) ((b - 1) ∷ chunks_named n (word / 256)) []) byte
    ∙ cond-true (is_chunk_byte (chunk + 1)) ((chunk + 1 - 1) ∷ chunks_named n (word / 256)) [] (chunk_byte chunk (All-head (λ chunk. chunk < 16) chunk chunks small))
    ∙ ap (λ c. c ∷ chunks_named n (word / 256)) number
    ∙ ap (λ w. chunk ∷ chunks_named n w) rest
    ∙ ap (λ cs. chunk ∷ cs) (chunks_named-directory_of n chunks (omega arith) (All-tail (λ chunk. chunk < 16) chunk chunks small))

pub eight : most_chunks ≡ 8
unfolding most_chunks
eight = refl

pub active_chunks-directory : (directory : ℕ) (chunks : List ℕ) → IsDirectory directory chunks → active_chunks directory ≡ chunks
unfolding active_chunks
active_chunks-directory directory chunks is =
    ap (chunks_named most_chunks) is.word ∙ chunks_named-directory_of most_chunks chunks (omega (arith, eight, is.most)) is.small

-- all of a directory's bytes
pub named_first : (directory : ℕ) → chunks_named (most_chunks - 0) directory ≡ active_chunks directory
unfolding active_chunks
named_first directory = let e : most_chunks - 0 ≡ most_chunks = omega arith in ap (λ n. chunks_named n directory) e

-- none of them is left
pub named_last : (n word : ℕ) → 8 ≤ n → chunks_named (most_chunks - n) word ≡ []
named_last n word over = let e : most_chunks - n ≡ 0 = omega (arith, eight) in ap (λ m. chunks_named m word) e

-- a byte that names a chunk
pub named_more : (i word : ℕ) → i < 8 → 1 ≤ word % 256 → word % 256 ≤ 16 →
    chunks_named (most_chunks - i) word ≡ (word % 256 - 1) ∷ chunks_named (most_chunks - (i + 1)) (word / 256)
named_more i word below low high =
    let e : most_chunks - i ≡ suc (most_chunks - (i + 1)) = omega (arith, eight) in
    let is : is_chunk_byte (word % 256) ≡ true = ap (λ b. b && leb (word % 256) 16) (lt-ltb 0 (word % 256) (omega arith)) ∙ le-leb (word % 256) 16 high in
    let rest = chunks_named (most_chunks - (i + 1)) (word / 256) in
    ap (λ m. chunks_named m word) e ∙ cond-true (is_chunk_byte (word % 256)) ((word % 256 - 1) ∷ rest) [] is
