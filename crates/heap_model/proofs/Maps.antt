-- Maps with one key changed.
use Rattle.std.proofs.Common.{◌≡◌, ◌≢◌, ◌⊎◌, ◌==◌, ℕ, true, false, refl, Option, arith}
use Rattle.std.proofs.lemmas.Bool.{cases_eq, eq-eqb, ne_eqb}
use Rattle.heap_model.specs.Machine.{with_key}

-- the key itself
pub with_key-here : {X : Type 0} (map : ℕ → Option X) (key : ℕ) (new : Option X) → with_key map key new key ≡ new
with_key-here map key new = let same : (key == key) ≡ true = eq-eqb key key refl in rw same refl

-- another key
pub with_key-other : {X : Type 0} (map : ℕ → Option X) (key other : ℕ) (new : Option X) → other ≢ key → with_key map key new other ≡ map other
with_key-other map key other new apart = let test : (other == key) ≡ false = ne_eqb other key apart in rw test refl

-- what a key leads to: it is the changed one and the new value, or another and the old one
pub with_key-cases : {X : Type 0} (map : ℕ → Option X) (key other : ℕ) (new value : Option X) → with_key map key new other ≡ value → ((other ≡ key) × (new ≡ value)) ⊎ ((other ≢ key) × (map other ≡ value))
with_key-cases map key other new value is = grind (arith, with_key-here, with_key-other, cases_eq)

-- a map that has the new value there, and all else as before
pub with_key-is : {X : Type 0} (map new : ℕ → Option X) (key : ℕ) (value : Option X) → new key ≡ value → ((other : ℕ) → other ≢ key → new other ≡ map other) → (other : ℕ) → new other ≡ with_key map key value other
with_key-is map new key value here others other = grind arith

-- the last change counts
pub with_key-twice : {X : Type 0} (map : ℕ → Option X) (key : ℕ) (old new : Option X) (other : ℕ) → with_key (with_key map key old) key new other ≡ with_key map key new other
with_key-twice map key old new = grind (arith, with_key-is, with_key-here, with_key-other)
