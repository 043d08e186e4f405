-- Where the chunks of a well-formed log lie among the words.
use Rattle.std.proofs.Common.{◌≡◌, ◌<◌, ◌≤◌, ◌+◌, ◌-◌, ◌*◌, ◌/◌, ℕ, List, length, get_or, ap, arith, subst, sym, ◌∙◌}
use Rattle.std.proofs.Math.Nat.{mul-le-mul_left}
use Rattle.book_log.proofs.Common.{take_all, All, PmemState, words_of, IsPlace, layout_of, directory_word, chunk_word, entry_slot, heap_word, version_in}
use Rattle.pmem_lines.specs.Words.{word_at, words_at}
use Rattle.pool_layout.proofs.Layouts.{layout_rules}
use Rattle.image_tables.proofs.Chunks.{few_chunks}
use Rattle.image_tables.proofs.Places.{entry_place-within, log_start-low}
use Rattle.book_log.specs.Book.{HasLog, IsWithin, AreWithin, chunks_of, last_chunk}

-- a word of so many has an address
pub place_at : (s : PmemState) (at k : ℕ) → at ≡ 8 * k → k < length (words_of s) → IsPlace s at
place_at s at k is inside = record { aligned = omega arith; inside = omega arith }

-- the word at that address
pub word_of_place : (words : List ℕ) (at k : ℕ) → at ≡ 8 * k → word_at words (at / 8) ≡ word_at words k
word_of_place words at k is = let e : at / 8 ≡ k = omega arith in ap (word_at words) e

-- all words are those from the first one on
pub words_at-whole : (words : List ℕ) (n : ℕ) → n ≡ length words → words_at words 0 n ≡ words
unfolding words_at
words_at-whole words n is = take_all n words (omega (arith, is))

-- what a device lends from its first word on, as many words as it has, is all of them
pub lent_whole : (words lent : List ℕ) (n : ℕ) → lent ≡ words_at words 0 n → n ≡ length words → lent ≡ words
lent_whole words lent n is all = is ∙ words_at-whole words n all

-- an entry lies in its chunk
pub entry_slot-within : (version chunk entry : ℕ) → entry < (layout_of version).chunk_entries → entry_slot version chunk entry < chunk_word version (chunk + 1)
entry_slot-within version chunk entry below = omega (arith, entry_place-within version entry below)

-- what holds of each active chunk holds of the last one
pub of_last : (P : ℕ → Type 0) (words : List ℕ) → 1 ≤ length (chunks_of words) → All P (chunks_of words) → P (last_chunk words)
of_last P words some all = all (length (chunks_of words) - 1) 0 (omega arith)

-- there are sixteen chunks
pub last_chunk-few : (words : List ℕ) → 1 ≤ length (chunks_of words) → last_chunk words < 16
last_chunk-few words some = of_last (λ chunk. chunk < 16) words some (few_chunks (word_at words directory_word))

-- header line and roots lie before the log
pub header_within : (granules : ℕ) (words : List ℕ) → HasLog granules words → AreWithin words → 2048 < length words
header_within granules words log inside =
    let version = version_in words in
    omega (arith, of_last (IsWithin words) words log.directory.some inside, log_start-low version)

-- where the heap begins inside, each active chunk lies inside
pub within_heap : (words : List ℕ) → heap_word (version_in words) ≤ length words → AreWithin words
within_heap words heap i d below =
    let version = version_in words in
    let rules = layout_rules version in
    let chunk = get_or (chunks_of words) i d in
    let few : chunk + 1 ≤ 16 = omega (arith, few_chunks (word_at words directory_word) i d below) in
    let size = (layout_of version).chunk_bytes / 8 in
    let grows : size * (chunk + 1) ≤ size * 16 = mul-le-mul_left size few in
    omega (arith, grows, rules.heap, rules.chunk, rules.log)

-- words of the same directory, version and number have the chunks inside too
pub within_same : (words new : List ℕ) → version_in new ≡ version_in words → chunks_of new ≡ chunks_of words → length new ≡ length words → AreWithin words → AreWithin new
within_same words new version chunks size inside =
    let old : All (IsWithin new) (chunks_of words) = λ i d below.
    let last = get_or (chunks_of words) i d + 1 in
    subst (λ v. chunk_word v last ≤ length new) (sym version) (subst (λ n. chunk_word (version_in words) last ≤ n) (sym size) (inside i d below)) in
    subst (All (IsWithin new)) (sym chunks) old

pub last_chunk-same : (words new : List ℕ) → chunks_of new ≡ chunks_of words → last_chunk new ≡ last_chunk words
last_chunk-same words new chunks = ap (λ cs. get_or cs (length cs - 1) 0) chunks
