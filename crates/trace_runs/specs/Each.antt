-- Lists whose items have numbers.
use Rattle.std.specs.Prelude.{ℕ, suc, List, [], ◌∷◌}

-- this holds of each item and its number, of which the first is n
abbrev pub EachFrom : {A : Type 0} → (ℕ → A → Type 0) → ℕ → List A → Type 0
EachFrom P n [] = Unit {0}
EachFrom P n (x ∷ xs) = P n x × EachFrom P (suc n) xs
