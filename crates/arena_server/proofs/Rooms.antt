-- Rows of room.
use Rattle.std.proofs.Common.{◌≡◌, ℕ, ◌≤◌, List, [], ◌∷◌, ◌++◌, map, ap, sym, ◌∙◌, subst}
use mathlib.Core.List.{map-append}
use Rattle.shared_pool.specs.Rows.{AllRoom}

room_more : (n : ℕ) (rs : List (ℕ × ℕ)) (r : ℕ × ℕ) → AllRoom n rs → (r.0 ≡ 0) × (n ≤ r.1) → AllRoom n (rs ++ r ∷ [])
room_more n [] r h k = (k, tt)
room_more n (x ∷ xs) r h k = (h.0, room_more n xs r h.1 k)

pub room_pushed : {R : Type 0} (f : R → ℕ × ℕ) (n : ℕ) (xs ys : List R) (x : R) → ys ≡ xs ++ x ∷ [] → AllRoom n (map f xs) → ((f x).0 ≡ 0) × (n ≤ (f x).1) → AllRoom n (map f ys)
room_pushed f n xs ys x is h k = subst (AllRoom n) (sym (ap (map f) is ∙ map-append f xs (x ∷ []))) (room_more n (map f xs) (f x) h k)
