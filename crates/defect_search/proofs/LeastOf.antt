-- The least number of two properties.
use Rattle.std.proofs.Common.{◌≡◌, ◌⊎◌, ℕ, Bool, true, false, ltb, cond, Option, Some, None, refl, sym, subst, arith, ⊎_elim}
use Rattle.defect_search.proofs.Common.{ltb-true, ltb-false, IsLeastOf, lesser}

lesser_of : (P Q R : ℕ → Type 0) (a b : Option ℕ) → ((n : ℕ) → P n → R n) → ((n : ℕ) → Q n → R n) → ((n : ℕ) → R n → P n ⊎ Q n) → IsLeastOf P a → IsLeastOf Q b → IsLeastOf R (lesser a b)
lesser_of P Q R None None of_p of_q either p q = record { none = λ n r. ⊎_elim (λ h. p.none n h) (λ h. q.none n h) (either n r) }
lesser_of P Q R None (Some b) of_p of_q either p q = record { here = of_q b q.here; least = λ n r. ⊎_elim (λ h. absurd (p.none n h)) (λ h. q.least n h) (either n r) }
lesser_of P Q R (Some a) None of_p of_q either p q = record { here = of_p a p.here; least = λ n r. ⊎_elim (λ h. p.least n h) (λ h. absurd (q.none n h)) (either n r) }
lesser_of P Q R (Some a) (Some b) of_p of_q either p q = by (ltb b a) refl
  where
    by : (less : Bool) → ltb b a ≡ less → IsLeastOf R (cond less (Some b) (Some a))
    by true test = record { here = of_q b q.here; least = λ n r. ⊎_elim (λ h. omega (arith, p.least n h, ltb-true b a test)) (λ h. q.least n h) (either n r) }
    by false test = record { here = of_p a p.here; least = λ n r. ⊎_elim (λ h. p.least n h) (λ h. omega (arith, q.least n h, ltb-false b a test)) (either n r) }

-- the least number of either
pub least_either : (P Q R : ℕ → Type 0) (a b : Option ℕ) {c : Option ℕ} → ((n : ℕ) → P n → R n) → ((n : ℕ) → Q n → R n) → ((n : ℕ) → R n → P n ⊎ Q n) → IsLeastOf P a → IsLeastOf Q b → c ≡ lesser a b → IsLeastOf R c
least_either P Q R a b of_p of_q either p q is = subst (IsLeastOf R) (sym is) (lesser_of P Q R a b of_p of_q either p q)

-- the same property in other words
pub least_same : (P Q : ℕ → Type 0) (a : Option ℕ) → ((n : ℕ) → P n → Q n) → ((n : ℕ) → Q n → P n) → IsLeastOf P a → IsLeastOf Q a
least_same P Q None forth back p = record { none = λ n q. p.none n (back n q) }
least_same P Q (Some a) forth back p = record { here = forth a p.here; least = λ n q. p.least n (back n q) }
