-- Lists that are carried over item by item: the first of what is left goes behind what is there.
use Rattle.std.proofs.Common.{◌≡◌, List, [], ◌∷◌, ◌++◌, map, refl, ap, sym, ◌∙◌, append_assoc}
use mathlib.Core.List.{map-append}

pub carried : {A : Type 0} (done more all xs ys : List A) (x : A) → xs ≡ x ∷ ys → more ≡ done ++ x ∷ [] → done ++ xs ≡ all → more ++ ys ≡ all
carried done more all xs ys x whole pushed is = ap (λ l. l ++ ys) pushed ∙ (append_assoc done (x ∷ []) ys ∙ (ap (λ l. done ++ l) (sym whole) ∙ is))

-- the same of what a function makes of each
pub carried_by : {A B : Type 0} (f : A → B) (done more all : List B) (xs ys : List A) (x : A) → xs ≡ x ∷ ys → more ≡ done ++ f x ∷ [] → done ++ map f xs ≡ all → more ++ map f ys ≡ all
carried_by f done more all xs ys x whole pushed is = carried done more all (map f xs) (map f ys) (f x) (ap (map f) whole) pushed is

pub pushed_by : {A B : Type 0} (f : A → B) (xs ys : List A) (x : A) → ys ≡ xs ++ x ∷ [] → map f ys ≡ map f xs ++ f x ∷ []
pushed_by f xs ys x pushed = ap (map f) pushed ∙ map-append f xs (x ∷ [])

-- what two functions make of each, one after the other
pub map_twice : {A B C : Type 0} (xs : List A) (f : A → B) (g : B → C) → map g (map f xs) ≡ map (λ x. g (f x)) xs
map_twice [] f g = refl
map_twice (x ∷ xs) f g = ap (λ l. g (f x) ∷ l) (map_twice xs f g)
