-- Whether the word of a root names a block.
use Rattle.std.proofs.Common.{◌≡◌, ◌≢◌, ◌↔◌, ℕ, ◌+◌, ◌<◌, ◌≤◌, Bool, true, false, not, sym, subst, ◌∙◌, refl, IsTrue, arith, ⊎_elim}
use Rattle.std.proofs.lemmas.Bool.{false≢true, true≢false, cases_eq, cases_lt}
use Rattle.defect_search.proofs.Common.{Tables, IsStanding, IsLeast}
use Rattle.defect_search.specs.Roots.{IsSettled}
use Rattle.image_defects.specs.Roots.{IsStrayRoot}

pub settled_none : (t : Tables) (root word : ℕ) → word ≡ t.root root → word ≡ 0 → IsSettled t root
settled_none t root word is none = record { stands = λ some. absurd (some (sym is ∙ none)) }

pub settled_by : (t : Tables) (root word : ℕ) (stands : Bool) → word ≡ t.root root → (IsTrue stands ↔ IsStanding t root word) → not stands ≡ false → IsSettled t root
settled_by t root word true is says e = record { stands = λ some. subst (IsStanding t root) is (says.0 refl) }
settled_by t root word false is says e = absurd (true≢false e)

pub stray_by : (t : Tables) (root word : ℕ) (stands : Bool) → word ≡ t.root root → word ≢ 0 → (IsTrue stands ↔ IsStanding t root word) → not stands ≡ true → IsStrayRoot t root
stray_by t root word true is some says e = absurd (false≢true e)
stray_by t root word false is some says e = record { some = λ none. some (is ∙ none); stray = λ standing. false≢true (says.1 (subst (IsStanding t root) (sym is) standing)) }

-- the first stray root
pub first_stray : (t : Tables) (root : ℕ) → IsStrayRoot t root → ((k : ℕ) → k < root → IsSettled t k) → IsLeast (IsStrayRoot t) root
first_stray t root stray before = record {
  here = stray;
  least = λ other s. ⊎_elim (λ (less : other < root). absurd (s.stray ((before other less).stands s.some))) (λ (most : root ≤ other). most) (cases_lt other root);
}

pub settled_more : (t : Tables) (n : ℕ) → ((k : ℕ) → k < n → IsSettled t k) → IsSettled t n → (k : ℕ) → k < n + 1 → IsSettled t k
settled_more t n before here k below = ⊎_elim (λ (same : k ≡ n). subst (IsSettled t) (sym same) here) (λ (other : k ≢ n). before k (omega arith)) (cases_eq k n)
