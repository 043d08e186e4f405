-- Tables in which extents of two granules start at even granules: no two share a granule.
use Rattle.std.proofs.Common.{◌≡◌, ◌≢◌, ◌%◌, ⊎_elim, ℕ, eqb, sym, ap, ◌∙◌, arith, Option, Some, None}
use Rattle.std.proofs.lemmas.Bool.{cases_eq, eq-eqb, ne_eqb, cond-true, cond-false}
use Rattle.image_tables.specs.declared.extent.Extent.{Extent}
use Rattle.image_tables.specs.declared.extent.Extent.TheVariants as kinds
use Rattle.book_log.specs.declared.entry.LogEntry.TheVariants.{Large}
use Rattle.book_log.specs.Log.{with_entry}
use Rattle.book_log.specs.Live.{granules_of, AreDisjoint}

pub record AreEven (extents : ℕ → Option Extent) : Type 0 where
  pub start : (start : ℕ) (x : Extent) → extents start ≡ Some x → start % 2 ≡ 0
  pub size : (start : ℕ) (x : Extent) → extents start ≡ Some x → granules_of x ≡ 2

pub even_disjoint : (extents : ℕ → Option Extent) → AreEven extents → AreDisjoint extents
even_disjoint extents even = record {
  each = λ start later x other less first second. omega (arith, less, even.start start x first, even.size start x first, even.start later other second);
}

pub even_none : (extents : ℕ → Option Extent) → ((start : ℕ) → extents start ≡ None) → AreEven extents
even_none extents none = record {
  start = λ start x is. absurd (apart x (sym (none start) ∙ is));
  size = λ start x is. absurd (apart x (sym (none start) ∙ is));
}
  where
    apart : (x : Extent) → None ≡ Some x → ⊥
    apart x e = absurd (cc)

-- one more such extent
pub even_more : (extents new : ℕ → Option Extent) (start : ℕ) → AreEven extents → start % 2 ≡ 0 → ((s : ℕ) → new s ≡ with_entry extents (Large start 2) s) → AreEven new
even_more extents new start even is put = record {
  start = λ s x here. ⊎_elim
      (λ (same : s ≡ start). ap (λ k. k % 2) same ∙ is)
      (λ (other : s ≢ start). even.start s x (sym (put s ∙ cond-false (eqb s start) (Some (kinds.Large 2)) (extents s) (ne_eqb s start other)) ∙ here))
      (cases_eq s start);
  size = λ s x here. ⊎_elim
      (λ (same : s ≡ start). size_of x (sym (put s ∙ cond-true (eqb s start) (Some (kinds.Large 2)) (extents s) (eq-eqb s start same)) ∙ here))
      (λ (other : s ≢ start). even.size s x (sym (put s ∙ cond-false (eqb s start) (Some (kinds.Large 2)) (extents s) (ne_eqb s start other)) ∙ here))
      (cases_eq s start);
}
  where
    sizes : Option Extent → ℕ
    sizes None = 0
    sizes (Some x) = granules_of x

    size_of : (x : Extent) → Some (kinds.Large 2) ≡ Some x → granules_of x ≡ 2
    size_of x e = sym (ap sizes e)

-- tables that say the same
pub even_same : (extents new : ℕ → Option Extent) → AreEven extents → ((s : ℕ) → new s ≡ extents s) → AreEven new
even_same extents new even same = record {
  start = λ s x here. even.start s x (sym (same s) ∙ here);
  size = λ s x here. even.size s x (sym (same s) ∙ here);
}
