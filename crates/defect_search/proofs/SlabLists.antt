-- Lists of slabs, granule by granule.
use Rattle.std.proofs.Common.{◌≡◌, ◌≢◌, ℕ, ◌+◌, ◌<◌, true, false, true≢false, List, [], ◌∷◌, ◌++◌, length, sym, ap, subst, ◌∙◌, arith, ⊎_elim}
use Rattle.defect_search.proofs.Common.{cases_eq, get_or_append_left, length-append, get_or-append_seam, is_slab, Slab, no_slab, slab_in, IsRead, AreSlabs}

-- the list has the slabs that start below a granule, by rising start
pub record AreSlabsBelow (words : List ℕ) (n : ℕ) (slabs : List Slab) : Type 0 where
  pub each : (i : ℕ) → i < length slabs → IsRead words (slab_in slabs i)
  pub before : (i : ℕ) → i < length slabs → (slab_in slabs i).start < n
  pub all : (start : ℕ) → start < n → is_slab words start ≡ true → (i : ℕ) × (i < length slabs) × ((slab_in slabs i).start ≡ start)
  pub rising : (i j : ℕ) → i < j → j < length slabs → (slab_in slabs i).start < (slab_in slabs j).start

pub no_slabs : (words : List ℕ) → AreSlabsBelow words 0 []
no_slabs words = record {
  each = λ i below. absurd (omega arith);
  before = λ i below. absurd (omega arith);
  all = λ start below slab. absurd (omega arith);
  rising = λ i j less below. absurd (omega arith);
}

pub slabs_skip : (words : List ℕ) (n : ℕ) (slabs : List Slab) → is_slab words n ≡ false → AreSlabsBelow words n slabs → AreSlabsBelow words (n + 1) slabs
slabs_skip words n slabs none are = record {
  each = are.each;
  before = λ i below. omega (arith, are.before i below);
  all = λ start below slab. ⊎_elim (λ (same : start ≡ n). absurd (true≢false (sym slab ∙ ap (is_slab words) same ∙ none))) (λ (other : start ≢ n). are.all start (omega arith) slab) (cases_eq start n);
  rising = are.rising;
}

pub slabs_push : (words : List ℕ) (n : ℕ) (slabs : List Slab) (slab : Slab) → slab.start ≡ n → IsRead words slab → AreSlabsBelow words n slabs → AreSlabsBelow words (n + 1) (slabs ++ slab ∷ [])
slabs_push words n slabs slab start read are = record {
  each = λ i below. ⊎_elim
      (λ (same : i ≡ length slabs). subst (IsRead words) (sym (ap (slab_in (slabs ++ slab ∷ [])) same ∙ get_or-append_seam slabs slab [] no_slab)) read)
      (λ (other : i ≢ length slabs). let front : i < length slabs = omega (arith, length-append slabs (slab ∷ [])) in subst (IsRead words) (sym (get_or_append_left slabs (slab ∷ []) no_slab i front)) (are.each i front))
      (cases_eq i (length slabs));
  before = λ i below. ⊎_elim
      (λ (same : i ≡ length slabs). omega (arith, ap (λ (s : Slab). s.start) (ap (slab_in (slabs ++ slab ∷ [])) same ∙ get_or-append_seam slabs slab [] no_slab), start))
      (λ (other : i ≢ length slabs). let front : i < length slabs = omega (arith, length-append slabs (slab ∷ [])) in omega (arith, ap (λ (s : Slab). s.start) (get_or_append_left slabs (slab ∷ []) no_slab i front), are.before i front))
      (cases_eq i (length slabs));
  all = λ at below here. ⊎_elim
      (λ (same : at ≡ n). (length slabs, omega (arith, length-append slabs (slab ∷ [])), ap (λ (s : Slab). s.start) (get_or-append_seam slabs slab [] no_slab) ∙ start ∙ sym same))
      (λ (other : at ≢ n). let found = are.all at (omega arith) here in (found.0, omega (arith, length-append slabs (slab ∷ []), found.1), ap (λ (s : Slab). s.start) (get_or_append_left slabs (slab ∷ []) no_slab found.0 found.1) ∙ found.2))
      (cases_eq at n);
  rising = λ i j less below. ⊎_elim
      (λ (same : j ≡ length slabs).
      let front : i < length slabs = omega (arith, less) in
      omega (arith, ap (λ (s : Slab). s.start) (get_or_append_left slabs (slab ∷ []) no_slab i front), are.before i front, ap (λ (s : Slab). s.start) (ap (slab_in (slabs ++ slab ∷ [])) same ∙ get_or-append_seam slabs slab [] no_slab), start))
      (λ (other : j ≢ length slabs).
      let back : j < length slabs = omega (arith, length-append slabs (slab ∷ [])) in
      let front : i < length slabs = omega (arith, less) in
      omega (arith, ap (λ (s : Slab). s.start) (get_or_append_left slabs (slab ∷ []) no_slab i front), ap (λ (s : Slab). s.start) (get_or_append_left slabs (slab ∷ []) no_slab j back), are.rising i j less back))
      (cases_eq j (length slabs));
}

pub slabs_all : (words : List ℕ) (n : ℕ) (slabs : List Slab) → ((start : ℕ) → is_slab words start ≡ true → start < n) → AreSlabsBelow words n slabs → AreSlabs words slabs
slabs_all words n slabs inside are = record { each = are.each; all = λ start slab. are.all start (inside start slab) slab; rising = are.rising }
