-- Counts and normal slabs agree, and what the candidates are is what they mean.
use Rattle.std.proofs.Common.{◌≡◌, ◌≢◌, ◌↔◌, ◌==◌, ℕ, zero, suc, List, [], ◌∷◌, length, map, Option, Some, None, MatchOption, slice_index, slice_index_or, if◌then◌else◌, refl, sym, ap, ◌∙◌, ⊎_elim, arith}
use Rattle.std.proofs.lemmas.Bool.{cases_eq, cond-true, cond-false, eq-eqb, ne_eqb}
use Rattle.heap_model.specs.Machine.{with_key}
use Rattle.heap_model.proofs.Maps.{with_key-here}
use Rattle.slab_index.specs.declared.candidates.NormalSlab.{NormalSlab}
use Rattle.slab_index.specs.Candidates.{normal_in, IsCandidate, HasNoCandidate, IsFirstCandidate}
use Rattle.slab_index.specs.declared.candidates.Candidate.{Candidate}
use Rattle.slab_index.specs.Lives.{normal_at, IsSparse, HasNoSparse, IsFirstSparse}
use Rattle.slab_index.specs.LivesKept.{class_if, lives_of, IsKept, IsRecounted}

-- what stands at a place of the classes is the class of what stands there
map_at : (normal : List (Option NormalSlab)) (s : ℕ) → slice_index_or (map class_if normal) s None ≡ class_if (slice_index_or normal s None)
map_at [] s = refl
map_at (x ∷ xs) zero = refl
map_at (x ∷ xs) (suc s) = map_at xs s

pub normal_at-is : (counts : List ℕ) (normal : List (Option NormalSlab)) (unfit : List ℕ) (s : ℕ) → normal_at (lives_of counts normal unfit) s ≡ class_if (normal_in normal s)
unfolding normal_at normal_in
normal_at-is counts normal unfit s = map_at normal s

length_map : (normal : List (Option NormalSlab)) → length (map class_if normal) ≡ length normal
length_map [] = refl
length_map (x ∷ xs) = ap suc (length_map xs)

-- one slab is another, or none
pub class_with : (old new : List (Option NormalSlab)) (start : ℕ) (slab : Option NormalSlab) → ((s : ℕ) → normal_in new s ≡ with_key (normal_in old) start slab s) → (s : ℕ) → class_if (normal_in new s) ≡ with_key (λ k. class_if (normal_in old k)) start (class_if slab) s
class_with old new start slab is s = ⊎_elim
    (λ (same : s ≡ start). ap class_if (is s ∙ cond-true (s == start) slab (normal_in old s) (eq-eqb s start same)) ∙ sym (cond-true (s == start) (class_if slab) (class_if (normal_in old s)) (eq-eqb s start same)))
    (λ (differ : s ≢ start). ap class_if (is s ∙ cond-false (s == start) slab (normal_in old s) (ne_eqb s start differ)) ∙ sym (cond-false (s == start) (class_if slab) (class_if (normal_in old s)) (ne_eqb s start differ)))
    (cases_eq s start)

pub classes_with : (counts : List ℕ) (normal : List (Option NormalSlab)) (unfit : List ℕ) (start : ℕ) (class : Option ℕ) (s : ℕ) → with_key (λ k. class_if (normal_in normal k)) start class s ≡ with_key (normal_at (lives_of counts normal unfit)) start class s
classes_with counts normal unfit start class s = ap (λ x. if s == start then class else x) (sym (normal_at-is counts normal unfit s))

-- it has the count
pub kept_put : (counts : List ℕ) (old new : List (Option NormalSlab)) (start class live : ℕ) → live ≡ slice_index counts start → length new ≡ length old → ((s : ℕ) → normal_in new s ≡ with_key (normal_in old) start (Some (record { class = class; live = live })) s) → IsKept counts old → IsKept counts new
kept_put counts old new start class live count size is kept = record {
  few = kept.few;
  size = size ∙ kept.size;
  agree = λ s slab here. ⊎_elim
      (λ (same : s ≡ start).
      let one : Some (record { class = class; live = live }) ≡ Some slab = sym (is s ∙ cond-true (s == start) (Some (record { class = class; live = live })) (normal_in old s) (eq-eqb s start same)) ∙ here in
      let same_slab : record { class = class; live = live } ≡ slab = cc in
      sym (ap (λ (x : NormalSlab). x.live) same_slab) ∙ count ∙ ap (slice_index counts) (sym same))
      (λ (differ : s ≢ start). kept.agree s slab (sym (is s ∙ cond-false (s == start) _ (normal_in old s) (ne_eqb s start differ)) ∙ here))
      (cases_eq s start);
}

pub kept_gone : (counts : List ℕ) (old new : List (Option NormalSlab)) (start : ℕ) → length new ≡ length old → ((s : ℕ) → normal_in new s ≡ with_key (normal_in old) start None s) → IsKept counts old → IsKept counts new
kept_gone counts old new start size is kept = record {
  few = kept.few;
  size = size ∙ kept.size;
  agree = λ s slab here. ⊎_elim
      (λ (same : s ≡ start). absurd (let none = sym (is s ∙ cond-true (s == start) None (normal_in old s) (eq-eqb s start same)) ∙ here in cc))
      (λ (differ : s ≢ start). kept.agree s slab (sym (is s ∙ cond-false (s == start) None (normal_in old s) (ne_eqb s start differ)) ∙ here))
      (cases_eq s start);
}

-- a slab is counted anew
pub recounted_put : (old new : List (Option NormalSlab)) (start live : ℕ) (slab : NormalSlab) → Some slab ≡ normal_in old start → length new ≡ length old → ((s : ℕ) → normal_in new s ≡ with_key (normal_in old) start (Some (record { class = slab.class; live = live })) s) → IsRecounted old start live new
recounted_put old new start live slab was size is = record {
  size = size;
  here = λ found here. let same : Some (record { class = slab.class; live = live }) ≡ Some found = sym (is start ∙ with_key-here (normal_in old) start _) ∙ here in let one : record { class = slab.class; live = live } ≡ found = cc in sym (ap (λ (x : NormalSlab). x.live) one);
  classes = λ s. ⊎_elim
      (λ (same : s ≡ start). ap class_if (is s ∙ cond-true (s == start) _ (normal_in old s) (eq-eqb s start same)) ∙ ap class_if was ∙ ap (λ k. class_if (normal_in old k)) (sym same))
      (λ (differ : s ≢ start). ap class_if (is s ∙ cond-false (s == start) _ (normal_in old s) (ne_eqb s start differ)))
      (cases_eq s start);
  others = λ s differ. is s ∙ cond-false (s == start) _ (normal_in old s) (ne_eqb s start differ);
}

pub recounted_none : (old : List (Option NormalSlab)) (start live : ℕ) → normal_in old start ≡ None → IsRecounted old start live old
recounted_none old start live none = record { size = refl; here = λ slab here. absurd (let nothing = sym none ∙ here in cc); classes = λ s. refl; others = λ s differ. refl }

-- so all agree, where the other counts stay
pub kept_recounted : (counts after : List ℕ) (old new : List (Option NormalSlab)) (start live : ℕ) → live ≡ slice_index after start → length after ≡ length counts → ((s : ℕ) → s ≢ start → slice_index after s ≡ slice_index counts s) → IsRecounted old start live new → IsKept counts old → IsKept after new
kept_recounted counts after old new start live count size others again kept = record {
  few = omega (arith, size, kept.few);
  size = again.size ∙ kept.size ∙ sym size;
  agree = λ s slab here. ⊎_elim
      (λ (same : s ≡ start). again.here slab (ap (normal_in new) (sym same) ∙ here) ∙ count ∙ ap (slice_index after) (sym same))
      (λ (differ : s ≢ start). kept.agree s slab (sym (again.others s differ) ∙ here) ∙ sym (others s differ))
      (cases_eq s start);
}

-- sparse slabs are the candidates
pub sparse_is : (counts : List ℕ) (normal : List (Option NormalSlab)) (unfit : List ℕ) (class start live : ℕ) → IsKept counts normal → IsSparse (lives_of counts normal unfit) class start live ↔ IsCandidate normal unfit class start live
sparse_is counts normal unfit class start live kept = (
  λ sparse. by (normal_in normal start) refl sparse,
  λ candidate. record {
    own = candidate.own;
    slab = normal_at-is counts normal unfit start ∙ ap class_if candidate.slab;
    count = kept.agree start (record { class = candidate.own; live = live }) candidate.slab;
    differs = candidate.differs;
    few = candidate.few;
    sparse = candidate.sparse;
    sought = candidate.sought;
  },
)
  where
    by : (slab : Option NormalSlab) → normal_in normal start ≡ slab → IsSparse (lives_of counts normal unfit) class start live → IsCandidate normal unfit class start live
    by None is sparse = absurd (let none = sym (normal_at-is counts normal unfit start ∙ ap class_if is) ∙ sparse.slab in cc)
    by (Some slab) is sparse =
        let same : Some slab.class ≡ Some sparse.own = sym (normal_at-is counts normal unfit start ∙ ap class_if is) ∙ sparse.slab in
        let own : slab.class ≡ sparse.own = cc in
        let count : slab.live ≡ live = kept.agree start slab is ∙ sym sparse.count in
        record {
          own = sparse.own;
          slab = is ∙ (λ i. Some (record { class = own i; live = count i }));
          differs = sparse.differs;
          few = sparse.few;
          sparse = sparse.sparse;
          sought = sparse.sought;
        }

-- so is the first
pub first_is : (counts : List ℕ) (normal : List (Option NormalSlab)) (unfit : List ℕ) (class : ℕ) (found : Option Candidate) → IsKept counts normal → MatchOption found (HasNoCandidate normal unfit class) (IsFirstCandidate normal unfit class) →
    MatchOption found (HasNoSparse (lives_of counts normal unfit) class) (IsFirstSparse (lives_of counts normal unfit) class)
first_is counts normal unfit class None kept none = record { none = λ start live sparse. none.none start live ((sparse_is counts normal unfit class start live kept).0 sparse) }
first_is counts normal unfit class (Some found) kept first = record {
  is = (sparse_is counts normal unfit class found.start found.live kept).1 first.is;
  first = λ start live sparse. first.first start live ((sparse_is counts normal unfit class start live kept).0 sparse);
}
