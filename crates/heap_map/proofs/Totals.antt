-- Totals, one granule more.
use Rattle.std.proofs.Common.{◌+◌, ℕ, refl, sym, subst, add-one}
use Rattle.heap_map.specs.Facts.{IsTotal}

pub total_more : (Has : ℕ → ℕ → Type 0) (n total here : ℕ) → IsTotal Has n total → Has n here → IsTotal Has (n + 1) (total + here)
total_more Has n total here is has = subst (λ m. IsTotal Has m (total + here)) (sym (add-one n)) (here, total, has, is, refl)
