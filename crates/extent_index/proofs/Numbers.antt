-- The numbers of runs among the starts: how many there are, and that those of two runs differ.
use Rattle.std.proofs.Common.{◌≡◌, ℕ, ◌+◌, ◌*◌, ◌/◌, ◌<◌, ◌≤◌, sym, ap, ◌∙◌, arith}
use Rattle.std.proofs.lemmas.Nat.{mul-le, column_fits, same_from_place}
use Rattle.std.proofs.Math.Nat.{mul_comm, mul_left_comm}
use Rattle.extent_index.specs.Runs.{words_of, run_number}

-- the words as a quotient
pub words_are : (granules : ℕ) → words_of granules ≡ (granules + 63) / 64
unfolding words_of
words_are granules = omega arith

-- the words have a bit for each granule
pub enough_words : (granules : ℕ) → granules ≤ 64 * words_of granules
unfolding words_of
enough_words granules = omega arith

-- all rows fit
pub rows_fit : (granules words : ℕ) → words ≤ 64 → granules ≤ 4096 → words * granules ≤ 262144
rows_fit granules words few most = omega (arith, mul-le words granules 64 4096 few most)

-- a row ends where the next begins at the latest
pub row_within : (words granules n : ℕ) → n < granules → words * n + words ≤ words * granules
row_within words granules n below = column_fits words n words granules below (omega arith)

-- two runs have two numbers
pub same_run : (granules n s m t : ℕ) → s < 64 * words_of granules → t < 64 * words_of granules → run_number granules n s ≡ run_number granules m t → (n ≡ m) × (s ≡ t)
same_run granules n s m t inside inside' same =
    let words = words_of granules in
    let turned : (k : ℕ) → k * (64 * words) ≡ 64 * (words * k) = λ k. mul_left_comm k 64 words ∙ ap (λ x. 64 * x) (mul_comm k words) in
    same_from_place n s m t (64 * words) inside inside' (ap (λ x. x + s) (turned n) ∙ same ∙ ap (λ x. x + t) (sym (turned m)))
