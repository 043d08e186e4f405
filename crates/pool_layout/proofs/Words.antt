-- Words as bytes, and bytes as words.
use Rattle.std.proofs.Common.{◌≡◌, ℕ, zero, suc, ◌+◌, ◌*◌, ◌/◌, ◌^◌, ◌<◌, ◌≤◌, List, [], ◌∷◌, ◌++◌, length, take, drop, get_or, map, flat_map, refl, sym, ap, ◌∙◌, subst, arith}
use Rattle.std.specs.Int.{from_le_bytes, to_le_bytes, w64}
use Rattle.std.specs.Simd.{first_chunks}
use Rattle.std.specs.List.{All}
use Rattle.std.proofs.lemmas.Nat.{le_bytes_8, from_le_bytes-to_le_bytes_8}
use Rattle.std.proofs.lemmas.Slice.{take-put_mid}
use borrow.Rule.Slice.PartMut.{put_mid}
use Rattle.std.proofs.lemmas.List.{nil_from_length, flat_map_more, drop-drop, take_more, take-append-drop, take-append-le, drop-append-le, map-append, length-map, length-take-le, length-drop, length-append, get_or-map, get_or-take, get_or-drop, get_or_past}
use Rattle.std.proofs.lemmas.List.Elements.{All-tail}
use Rattle.std.proofs.lemmas.Bool.{cases_lt}
use Rattle.std.proofs.Common.{⊎_elim}
use Rattle.pmem_lines.specs.Words.{word_at, words_at}
use Rattle.pool_layout.specs.Bytes.{words_of_bytes, bytes_of_words}
use Rattle.pool_layout.specs.Laws.{LawOfPieces}

-- chunks

length-first_chunks : (k : ℕ) (xs : List ℕ) → length (first_chunks 8 k xs) ≡ k
length-first_chunks zero xs = refl
length-first_chunks (suc k) xs = ap suc (length-first_chunks k (drop 8 xs))

get_or-first_chunks : (k i : ℕ) (xs d : List ℕ) → i < k → get_or (first_chunks 8 k xs) i d ≡ take 8 (drop (8 * i) xs)
get_or-first_chunks zero i xs d below = absurd (omega arith)
get_or-first_chunks (suc k) zero xs d below = refl
get_or-first_chunks (suc k) (suc i) xs d below =
    let further : 8 + 8 * i ≡ 8 * suc i = omega arith in
    get_or-first_chunks k i (drop 8 xs) d (omega arith) ∙ ap (take 8) (drop-drop (8 * i) 8 xs ∙ ap (λ n. drop n xs) further)

-- the chunks of two rows of bytes, of which the first is whole chunks
first_chunks-append : (n m : ℕ) (xs ys : List ℕ) → length xs ≡ 8 * n → first_chunks 8 (n + m) (xs ++ ys) ≡ first_chunks 8 n xs ++ first_chunks 8 m ys
first_chunks-append zero m xs ys size =
    let same : 0 + m ≡ m = omega arith in
    ap (λ k. first_chunks 8 k (xs ++ ys)) same ∙ ap (λ (zs : List ℕ). first_chunks 8 m (zs ++ ys)) (nil_from_length xs size)
first_chunks-append (suc n) m xs ys size =
    let enough : 8 ≤ length xs = omega (arith, size) in
    let less : length (drop 8 xs) ≡ 8 * n = omega (arith, size, length-drop 8 xs) in
    let next : suc n + m ≡ suc (n + m) = omega arith in
    ap (λ k. first_chunks 8 k (xs ++ ys)) next
    ∙ ap (λ (zs : List ℕ). zs ∷ first_chunks 8 (n + m) (drop 8 (xs ++ ys))) (take-append-le 8 xs ys enough)
    ∙ ap (λ (zs : List ℕ). take 8 xs ∷ first_chunks 8 (n + m) zs) (drop-append-le 8 xs ys enough)
    ∙ ap (λ (zs : List (List ℕ)). take 8 xs ∷ zs) (first_chunks-append n m (drop 8 xs) ys less)

-- words

-- the words of two rows of bytes, of which the first is whole words
pub words_of_bytes-append : LawOfPieces
unfolding words_of_bytes
words_of_bytes-append bytes more whole =
    let n = length bytes / 8 in
    let m = length more / 8 in
    let many : length (bytes ++ more) / 8 ≡ n + m = omega (arith, length-append bytes more, whole) in
    ap (λ k. map (from_le_bytes w64) (first_chunks 8 k (bytes ++ more))) many
    ∙ ap (map (from_le_bytes w64)) (first_chunks-append n m bytes more (omega (arith, whole)))
    ∙ map-append (from_le_bytes w64) (first_chunks 8 n bytes) (first_chunks 8 m more)

pub length-words_of_bytes : (bytes : List ℕ) → length (words_of_bytes bytes) ≡ length bytes / 8
unfolding words_of_bytes
length-words_of_bytes bytes = length-map (first_chunks 8 (length bytes / 8) bytes) (from_le_bytes w64) ∙ length-first_chunks (length bytes / 8) bytes

-- a word, by its bytes
pub word_at-words_of_bytes : (bytes : List ℕ) (i : ℕ) → i < length bytes / 8 → word_at (words_of_bytes bytes) i ≡ from_le_bytes w64 (take 8 (drop (8 * i) bytes))
unfolding words_of_bytes word_at
word_at-words_of_bytes bytes i below =
    let n = length bytes / 8 in
    get_or-map (from_le_bytes w64) (first_chunks 8 n bytes) i [] 0 (omega (arith, length-first_chunks n bytes))
    ∙ ap (from_le_bytes w64) (get_or-first_chunks n i bytes [] below)

-- bytes

-- one word more that is lent
words_at-more : (words : List ℕ) (from i : ℕ) → from + i < length words → words_at words from (i + 1) ≡ words_at words from i ++ word_at words (from + i) ∷ []
unfolding words_at word_at
words_at-more words from i below =
    take_more (drop from words) i 0 (omega (arith, length-drop from words)) ∙ ap (λ (x : ℕ). take i (drop from words) ++ x ∷ []) (get_or-drop from words i 0)

bytes_of_words-push : (words : List ℕ) (word : ℕ) → bytes_of_words (words ++ word ∷ []) ≡ bytes_of_words words ++ to_le_bytes w64 word
unfolding bytes_of_words
bytes_of_words-push words word = sym (flat_map_more (to_le_bytes w64) [] words word)

-- no word is no byte
pub bytes_of_words-none : (words : List ℕ) (from : ℕ) → bytes_of_words (words_at words from 0) ≡ []
unfolding bytes_of_words words_at
bytes_of_words-none words from = refl

-- one word more is eight bytes more
pub bytes_of_words-more : (words : List ℕ) (from i : ℕ) → from + i < length words →
    bytes_of_words (words_at words from (i + 1)) ≡ bytes_of_words (words_at words from i) ++ to_le_bytes w64 (word_at words (from + i))
bytes_of_words-more words from i below = ap bytes_of_words (words_at-more words from i below) ∙ bytes_of_words-push (words_at words from i) (word_at words (from + i))

-- eight bytes at a place are a word's, and those before it stay
pub take-put_word_bytes : (into ys front : List ℕ) (a k : ℕ) (word : ℕ) → a + 8 ≤ length into → ys ≡ to_le_bytes w64 word → take a into ≡ front → take (a + 8) (put_mid a k into ys) ≡ front ++ to_le_bytes w64 word
take-put_word_bytes into ys front a k word inside is before =
    take-put_mid a k into ys (a + 8) (omega (arith, ap length is)) (omega arith) ∙ ap (λ (xs : List ℕ). xs ++ ys) before ∙ ap (λ (xs : List ℕ). front ++ xs) is

-- so many words are eight times as many bytes
pub length-bytes_of_words : (words : List ℕ) → length (bytes_of_words words) ≡ 8 * length words
unfolding bytes_of_words
length-bytes_of_words [] = refl
length-bytes_of_words (word ∷ words) = omega (arith, length-append (to_le_bytes w64 word) (bytes_of_words words), length-bytes_of_words words)

-- both ways

read_back : (words : List ℕ) → All (λ word. word < 2 ^ 64) words → map (from_le_bytes w64) (first_chunks 8 (length words) (bytes_of_words words)) ≡ words
unfolding bytes_of_words
read_back [] fit = refl
read_back (word ∷ words) fit =
    let first : from_le_bytes w64 (to_le_bytes w64 word) ≡ word = from_le_bytes-to_le_bytes_8 word (fit 0 0 (omega arith)) in
    let rest : map (from_le_bytes w64) (first_chunks 8 (length words) (bytes_of_words words)) ≡ words = read_back words (All-tail (λ w. w < 2 ^ 64) word words fit) in
    cc

pub words_of_bytes-bytes_of_words : (words : List ℕ) → All (λ word. word < 2 ^ 64) words → words_of_bytes (bytes_of_words words) ≡ words
unfolding words_of_bytes
words_of_bytes-bytes_of_words words fit =
    let many : length (bytes_of_words words) / 8 ≡ length words = omega (arith, length-bytes_of_words words) in
    ap (λ n. map (from_le_bytes w64) (first_chunks 8 n (bytes_of_words words))) many ∙ read_back words fit

write_back : (n : ℕ) (bytes : List ℕ) → length bytes ≡ 8 * n → All (λ byte. byte < 256) bytes → flat_map (to_le_bytes w64) (map (from_le_bytes w64) (first_chunks 8 n bytes)) ≡ bytes
write_back zero bytes size fit = sym (nil_from_length bytes size)
write_back (suc n) bytes size fit =
    let front = take 8 bytes in
    let rest = drop 8 bytes in
    let each : (i : ℕ) → get_or front i 0 < 256 = λ i. ⊎_elim
    (λ (low : i < 8). let here : i < length bytes = omega arith in subst (λ n. n < 256) (sym (get_or-take 8 bytes i 0 low)) (fit i 0 here))
    (λ (high : 8 ≤ i). let short = length-take-le 8 bytes (omega arith) in subst (λ n. n < 256) (sym (get_or_past front i 0 (omega (arith, short)))) (omega arith))
    (cases_lt i 8) in
    let first : to_le_bytes w64 (from_le_bytes w64 front) ≡ front = le_bytes_8 front (from_le_bytes w64 front) (length-take-le 8 bytes (omega arith)) each refl in
    let Small : ℕ → Type 0 = λ byte. byte < 256 in
    let others : All Small rest = λ k d below. subst Small (sym (get_or-drop 8 bytes k d)) (fit (8 + k) d (omega (arith, below, length-drop 8 bytes))) in
    let later = write_back n rest (omega (arith, size, length-drop 8 bytes)) others in
    ap (λ (xs : List ℕ). xs ++ flat_map (to_le_bytes w64) (map (from_le_bytes w64) (first_chunks 8 n rest))) first ∙ ap (λ (xs : List ℕ). front ++ xs) later ∙ take-append-drop 8 bytes

pub bytes_of_words-words_of_bytes : (bytes : List ℕ) → All (λ byte. byte < 256) bytes → length bytes ≡ 8 * length (words_of_bytes bytes) → bytes_of_words (words_of_bytes bytes) ≡ bytes
unfolding words_of_bytes bytes_of_words
bytes_of_words-words_of_bytes bytes fit size =
    write_back (length bytes / 8) bytes (size ∙ ap (λ n. 8 * n) (length-words_of_bytes bytes)) fit
