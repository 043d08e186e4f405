-- A row in which the last one of a part came before the others of it: what stands where.
use Rattle.std.proofs.Common.{◌≡◌, ◌⊎◌, ⊎_elim, inl, inr, ℕ, ◌+◌, ◌-◌, ◌<◌, ◌≤◌, List, get_or, refl, sym, ap, ◌∙◌, subst, arith}
use Rattle.std.proofs.lemmas.Bool.{cases_lt, cases_eq}
use Rattle.dict_index.specs.Kept.{IsTurned, AreSlots}

-- what stands at a place stood at this one before: below the part, the one that came, the others of it, and above it
abbrev pub Was : ℕ → ℕ → ℕ → ℕ → Type 0
Was place last j i = ((j < place) × (i ≡ j)) ⊎ (((j ≡ place) × (i ≡ last)) ⊎ (((place ≤ i) × (i < last) × (j ≡ i + 1)) ⊎ ((last < j) × (i ≡ j))))

module _ (place last : ℕ) (order : place ≤ last) where
  pub was_of : (j : ℕ) → (i : ℕ) × Was place last j i
  was_of j = ⊎_elim
      (λ (low : j < place). (j, inl (low, refl)))
      (λ (no_low : place ≤ j). ⊎_elim
      (λ (high : last < j). (j, inr (inr (inr (high, refl)))))
      (λ (no_high : j ≤ last). ⊎_elim
      (λ (same : j ≡ place). (last, inr (inl (same, refl))))
      (λ apart. (j - 1, inr (inr (inl (omega (arith, apart), omega (arith, apart), omega (arith, apart))))))
      (cases_eq j place))
      (cases_lt last j))
      (cases_lt j place)

  pub came_of : (i : ℕ) → (j : ℕ) × Was place last j i
  came_of i = ⊎_elim
      (λ (low : i < place). (i, inl (low, refl)))
      (λ (no_low : place ≤ i). ⊎_elim
      (λ (high : last < i). (i, inr (inr (inr (high, refl)))))
      (λ (no_high : i ≤ last). ⊎_elim
      (λ (same : i ≡ last). (place, inr (inl (refl, same))))
      (λ apart. (i + 1, inr (inr (inl (no_low, omega (arith, apart), refl)))))
      (cases_eq i last))
      (cases_lt last i))
      (cases_lt i place)

  -- each stood at one place, and stands at one
  pub one_place : (j k i : ℕ) → Was place last j i → Was place last k i → j ≡ k
  one_place j k i a b = grind (arith, a, b)

  pub one_source : (j i k : ℕ) → Was place last j i → Was place last j k → i ≡ k
  one_source j i k a b = grind (arith, a, b)

  -- and none left the row or came from outside
  pub inside_was : (n j i : ℕ) → last < n → Was place last j i → j < n → i < n
  inside_was n j i inside a low = grind (arith, a)

  pub inside_came : (n j i : ℕ) → last < n → Was place last j i → i < n → j < n
  inside_came n j i inside a low = grind (arith, a)

module _ (old : List ℕ) (place last : ℕ) (new : List ℕ) (is : IsTurned old place last new) where
  pub stands : (j i : ℕ) → Was place last j i → get_or new j 0 ≡ get_or old i 0
  stands j i was = ⊎_elim
      (λ (at : (j < place) × (i ≡ j)). is.below j at.0 ∙ ap (λ k. get_or old k 0) (sym at.1))
      (λ more. ⊎_elim
      (λ (at : (j ≡ place) × (i ≡ last)). ap (λ k. get_or new k 0) at.0 ∙ is.first ∙ ap (λ k. get_or old k 0) (sym at.1))
      (λ rest. ⊎_elim
      (λ (at : (place ≤ i) × (i < last) × (j ≡ i + 1)). ap (λ k. get_or new k 0) at.2 ∙ is.moved i at.0 at.1)
      (λ (at : (last < j) × (i ≡ j)). is.above j at.0 ∙ ap (λ k. get_or old k 0) (sym at.1))
      rest)
      more)
      was

  module _ (order : place ≤ last) (n : ℕ) (inside : last < n) where
    -- it has each slot once where the one from before does
    pub slots_behind : AreSlots old n → AreSlots new n
    slots_behind slots = record {
      size = is.size ∙ slots.size;
      below = λ j within.
          let was = was_of place last order j in
          subst (λ (x : ℕ). x < n) (sym (stands j was.0 was.1)) (slots.below was.0 (omega (arith, slots.size, inside_was place last order n j was.0 inside was.1 (omega (arith, within, is.size, slots.size)))));
      once = λ j k in_row also same.
          let a = was_of place last order j in
          let b = was_of place last order k in
          let equal : a.0 ≡ b.0 = slots.once a.0 b.0
          (omega (arith, slots.size, inside_was place last order n j a.0 inside a.1 (omega (arith, in_row, is.size, slots.size))))
          (omega (arith, slots.size, inside_was place last order n k b.0 inside b.1 (omega (arith, also, is.size, slots.size))))
          (sym (stands j a.0 a.1) ∙ (same ∙ stands k b.0 b.1)) in
          one_place place last order j k a.0 a.1 (subst (λ (i : ℕ). Was place last k i) (sym equal) b.1);
    }

    -- and the other way round
    pub slots_before : AreSlots new n → AreSlots old n
    slots_before slots = record {
      size = sym is.size ∙ slots.size;
      below = λ i within.
          let came = came_of place last order i in
          subst (λ (x : ℕ). x < n) (stands came.0 i came.1) (slots.below came.0 (omega (arith, slots.size, inside_came place last order n came.0 i inside came.1 (omega (arith, within, is.size, slots.size)))));
      once = λ i k in_row also same.
          let a = came_of place last order i in
          let b = came_of place last order k in
          let equal : a.0 ≡ b.0 = slots.once a.0 b.0
          (omega (arith, slots.size, inside_came place last order n a.0 i inside a.1 (omega (arith, in_row, is.size, slots.size))))
          (omega (arith, slots.size, inside_came place last order n b.0 k inside b.1 (omega (arith, also, is.size, slots.size))))
          (stands a.0 i a.1 ∙ (same ∙ sym (stands b.0 k b.1))) in
          one_source place last order a.0 i k a.1 (subst (λ (j : ℕ). Was place last j k) (sym equal) b.1);
    }
