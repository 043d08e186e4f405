-- Journals as lists of entries, and the entries that bear a number.
use Rattle.std.specs.Prelude.{◌≡◌, ◌⊎◌, ℕ, zero, suc, ltb, Bool, false, ◌==◌, ◌||◌, if◌then◌else◌, List, [], ◌∷◌, ◌++◌, map, length}
use Rattle.heap_model.specs.declared.call.Entry.{Entry}
use Rattle.heap_model.specs.Journal.{AllBelow}

-- the entries that bear the number n, in order
abbrev pub calls_by : ℕ → List Entry → List Entry
calls_by n [] = []
calls_by n (e ∷ es) = if e.seat == n then e ∷ calls_by n es else calls_by n es

-- the same for each of these numbers
abbrev pub calls_of : List Entry → List ℕ → List (List Entry)
calls_of journal numbers = map (λ n. calls_by n journal) numbers

-- the journal stays, or grows by one entry, which bears the number n
abbrev pub Grows : ℕ → List Entry → List Entry → Type 0
Grows n before after = (after ≡ before) ⊎ ((e : Entry) × (e.seat ≡ n) × (after ≡ before ++ e ∷ []))

-- the journal begins with `start`, and each entry behind it bears a number below n
abbrev pub Since : ℕ → List Entry → List Entry → Type 0
Since n start journal = (rest : List Entry) × (start ++ rest ≡ journal) × AllBelow n rest

-- the number n is one of these
abbrev pub owns : ℕ → List ℕ → Bool
owns n [] = false
owns n (m ∷ ms) = (m == n) || owns n ms

-- the n numbers from k on
abbrev pub numbers : ℕ → ℕ → List ℕ
numbers k zero = []
numbers k (suc n) = k ∷ numbers (suc k) n

-- a fact of each of a list, said so that the first of them is taken off it
abbrev pub Each : {A : Type 0} → (A → Type 0) → List A → Type 0
Each P [] = Unit {0}
Each P (x ∷ xs) = P x × Each P xs

-- the longer and the shorter of two lists; of two that are equally long the first is the longer
abbrev pub longer : List Entry → List Entry → List Entry
longer xs ys = if ltb (length xs) (length ys) then ys else xs

abbrev pub shorter : List Entry → List Entry → List Entry
shorter xs ys = if ltb (length xs) (length ys) then xs else ys

-- a list's first element alone, and what stands behind it
abbrev pub only_first : {A : Type 0} → List A → List A
only_first [] = []
only_first (x ∷ xs) = x ∷ []

abbrev pub all_but_first : {A : Type 0} → List A → List A
all_but_first [] = []
all_but_first (x ∷ xs) = xs
