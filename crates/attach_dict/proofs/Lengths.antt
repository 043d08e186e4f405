-- A map without a key.
use Rattle.std.proofs.Common.{◌≡◌, ◌↔◌, ◌==◌, IsTrue, ℕ, List, [], ◌∷◌, length, refl, sym, ap, ◌∙◌, arith}
use Rattle.attach_dict.specs.Dict.{Pair}

-- a list without a pair
empty_of : (pairs : List Pair) → length pairs ≡ 0 → pairs ≡ []
empty_of [] none = refl
empty_of (pair ∷ pairs) none = absurd (omega arith)

pub is_empty_list : (pairs : List Pair) (count : ℕ) → count ≡ length pairs → IsTrue (count == 0) ↔ (pairs ≡ [])
is_empty_list pairs count is = (λ zero. empty_of pairs (sym is ∙ grind (arith, zero)), λ none. let zero : count ≡ 0 = is ∙ ap (λ (ps : List Pair). length ps) none in grind (arith, zero))
