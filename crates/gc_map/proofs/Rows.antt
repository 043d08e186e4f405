-- A row that says something of each number, one number more.
use Rattle.std.proofs.Common.{◌≡◌, ◌≢◌, ◌+◌, ◌<◌, ℕ, List, [], ◌∷◌, ◌++◌, length, slice_index_or, sym, ap, subst, ◌∙◌, arith, ⊎_elim}
use Rattle.std.proofs.Math.ListN.{length-append}
use Rattle.std.proofs.Math.Seq.{get_or-append_seam}
use Rattle.std.proofs.lemmas.Bool.{cases_eq}
use Rattle.std.proofs.lemmas.List.{get_or_append_left}

-- each of the first n numbers has it, of its member of a row of so many
pub record AreRight {X : Type 0} (Is : ℕ → X → Type 0) (none : X) (n : ℕ) (row : List X) : Type 0 where
  pub all : length row ≡ n
  pub each : (k : ℕ) → k < n → Is k (slice_index_or row k none)

pub right_more : {X : Type 0} (Is : ℕ → X → Type 0) (none : X) (n : ℕ) (row new : List X) (x : X) → AreRight Is none n row → Is n x → new ≡ row ++ x ∷ [] → AreRight Is none (n + 1) new
right_more {X} Is none n row new x are is more = record {
  all = ap length more ∙ length-append row (x ∷ []) ∙ omega (arith, are.all);
  each = λ k below. subst (λ (xs : List X). Is k (slice_index_or xs k none)) (sym more) (⊎_elim
      (λ (same : k ≡ n).
      let last : slice_index_or (row ++ x ∷ []) k none ≡ x = ap (λ i. slice_index_or (row ++ x ∷ []) i none) (same ∙ sym are.all) ∙ get_or-append_seam row x [] none in
      subst (Is k) (sym last) (subst (λ m. Is m x) (sym same) is))
      (λ (other : k ≢ n).
      let low : k < n = omega (arith, below, other) in
      subst (Is k) (sym (get_or_append_left row (x ∷ []) none k (omega (arith, low, are.all)))) (are.each k low))
      (cases_eq k n));
}
