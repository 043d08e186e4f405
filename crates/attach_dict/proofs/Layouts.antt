-- The words of a pair's block at the front of a row.
use Rattle.std.proofs.Common.{◌≡◌, ℕ, suc, ◌+◌, ◌≤◌, List, [], ◌∷◌, ◌++◌, length, set, take, refl, ap, ◌∙◌, arith}
use Rattle.std.proofs.Math.Seq.{take-append_seam}
use Rattle.attach_dict.specs.Calls.{block_words}

-- the first three
front : (row : List ℕ) (a b c : ℕ) → 3 ≤ length row → take 3 (set (set (set row 0 a) 1 b) 2 c) ≡ a ∷ b ∷ c ∷ []
front [] a b c long = absurd (omega arith)
front (x ∷ []) a b c long = absurd (omega arith)
front (x ∷ y ∷ []) a b c long = absurd (omega arith)
front (x ∷ y ∷ z ∷ row) a b c long = refl

-- and the value behind them
behind : (a b c : ℕ) (value rest : List ℕ) → take (3 + length value) ((a ∷ b ∷ c ∷ []) ++ (value ++ rest)) ≡ a ∷ b ∷ c ∷ value
behind a b c value rest =
    let more : 3 + length value ≡ suc (suc (suc (length value))) = omega arith in
    rw more (ap (λ (xs : List ℕ). a ∷ b ∷ c ∷ xs) (take-append_seam value rest))

pub laid_out : (row value rest new : List ℕ) (key number : ℕ) → 3 ≤ length row → new ≡ value → take (3 + length value) (take 3 (set (set (set row 0 key) 1 number) 2 (length value)) ++ (new ++ rest)) ≡ block_words key number value
laid_out row value rest new key number long is =
    ap (λ (xs : List ℕ). take (3 + length value) (xs ++ (new ++ rest))) (front row key number (length value) long)
    ∙ (ap (λ (xs : List ℕ). take (3 + length value) ((key ∷ number ∷ length value ∷ []) ++ (xs ++ rest))) is ∙ behind key number (length value) value rest)
