-- The bytes of words, piece by piece.
use Rattle.std.proofs.Common.{◌≡◌, ℕ, zero, suc, ◌+◌, List, [], ◌∷◌, ◌++◌, length, take, drop, flat_map, ap, ◌∙◌, arith}
use Rattle.std.proofs.lemmas.List.{take_all}
use Rattle.std.specs.Int.{to_le_bytes, w64}
use Rattle.std.proofs.lemmas.Grind.{common_steps, flat_map-append}
use Rattle.pmem_lines.specs.Words.{words_at}
use Rattle.pool_layout.specs.Bytes.{bytes_of_words}

-- a front is a shorter front and what follows it
take-add : (i j : ℕ) (xs : List ℕ) → take (i + j) xs ≡ take i xs ++ take j (drop i xs)
take-add zero j xs = ap (λ n. take n xs) (omega arith)
take-add (suc i) j [] = grind (arith, common_steps)
take-add (suc i) j (x ∷ xs) =
    let next : suc i + j ≡ suc (i + j) = omega arith in
    rw next (ap (λ (ys : List ℕ). x ∷ ys) (take-add i j xs))

-- a run of words that is all of them
pub all_words : (words : List ℕ) (n : ℕ) → n ≡ length words → words_at words 0 n ≡ words
unfolding words_at
all_words words n all = take_all n words (omega (arith, all))

-- the bytes of words, one piece further
pub bytes_of_words-further : (words : List ℕ) (n m : ℕ) → bytes_of_words (words_at words 0 (n + m)) ≡ bytes_of_words (words_at words 0 n) ++ bytes_of_words (words_at words n m)
unfolding words_at bytes_of_words
bytes_of_words-further words n m = ap (flat_map (to_le_bytes w64)) (take-add n m words) ∙ flat_map-append (to_le_bytes w64) (take n words) (take m (drop n words))
