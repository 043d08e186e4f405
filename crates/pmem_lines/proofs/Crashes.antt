-- What holds of every crash within events, from what holds of each step.
use Rattle.std.proofs.Common.{◌≡◌, ◌⊎◌, ℕ, zero, suc, ◌-◌, ◌/◌, ◌<◌, ◌≤◌, List, [], ◌∷◌, ◌++◌, length, take, sym, ◌∙◌, ap, subst, refl, inl, inr, ⊎_elim, arith}
use Rattle.std.proofs.lemmas.Bool.{cases_lt}
use Rattle.std.proofs.lemmas.List.{take-append-le}
use Rattle.std.proofs.lemmas.Grind.{common_steps}
use Rattle.pmem_lines.specs.declared.event.Event.{Event}
use Rattle.pmem_lines.specs.declared.event.Event.TheVariants.{Store, Flush, Fence}
use Rattle.pmem_lines.specs.Words.{word_at, put_word}
use Rattle.pmem_lines.specs.Events.{reading, IsQuiet, IsImage, CrashOnly, IsStored}
use Rattle.pmem_lines.proofs.Kept.{length-image_of, blend_of, IsStored-take, fences, image_of_none, first_store}

-- each word is the old one, or some event stores it there
pub record IsBlend (base : List ℕ) (events : List Event) (image : List ℕ) : Type 0 where
  pub same_length : length image ≡ length base
  pub each : (word : ℕ) → (word_at image word ≡ word_at base word) ⊎ IsStored events word (word_at image word)

-- what holds of every blend holds after every crash
pub by_blend : (base : List ℕ) (events : List Event) (P : List ℕ → Type 0) → ((image : List ℕ) → IsBlend base events image → P image) → CrashOnly base events P
by_blend base events P each = record {
  each = λ n image left. each image (record {
    same_length = ap length left.is ∙ length-image_of left.kept base (take n events);
    each = λ word. rw left.is (⊎_elim (λ same. inl same) (λ s. inr (IsStored-take n events word _ s)) (blend_of left.kept base (take n events) word));
  });
}

-- the first events of two lists, past the first of them
take_past : (e f : List Event) (n : ℕ) → length e ≤ n → take n (e ++ f) ≡ e ++ take (n - length e) f
take_past [] f n h = grind (arith, common_steps)
take_past (x ∷ e) f zero h = absurd (omega arith)
take_past (x ∷ e) f (suc n) h =
    let less : suc n - suc (length e) ≡ n - length e = omega arith in
    rw less (ap (λ (es : List Event). x ∷ es) (take_past e f n (omega arith)))

-- One step after another, where the first ends quiet.
pub then : (base : List ℕ) (e f : List Event) (P : List ℕ → Type 0) → IsQuiet e → CrashOnly base e P → CrashOnly (reading base e) f P → CrashOnly base (e ++ f) P
then base e f P quiet first second = record {
  each = λ n image left. ⊎_elim
      (λ (before : n < length e). first.each n image (subst (λ es. IsImage base es image) (take-append-le n e f (omega arith)) left))
      (λ (behind : length e ≤ n). second.each (n - length e) image (fences base e (take (n - length e) f) image quiet (subst (λ es. IsImage base es image) (take_past e f n behind) left)))
      (cases_lt n (length e));
}

-- what follows from what holds after every crash
pub weaker : (base : List ℕ) (e : List Event) (P Q : List ℕ → Type 0) → ((image : List ℕ) → P image → Q image) → CrashOnly base e P → CrashOnly base e Q
weaker base e P Q implies left = record { each = λ n image is. implies image (left.each n image is) }

-- a step that does nothing
pub by_none : (base : List ℕ) (P : List ℕ → Type 0) → P base → CrashOnly base [] P
by_none base P here = record { each = λ n image left. subst P (sym (image_of_none base image (subst (λ es. IsImage base es image) (take_none n) left))) here }
  where
    take_none : (n : ℕ) → take {A = Event} n [] ≡ []
    take_none zero = refl
    take_none (suc n) = refl

-- a flush is no store
pub by_flush : (base : List ℕ) (line : ℕ) (e : List Event) (P : List ℕ → Type 0) → CrashOnly base e P → CrashOnly base (Flush line ∷ e) P
by_flush base line e P rest = record {
  each = λ n. elim n as (λ n. (image : List ℕ) → IsImage base (take n (Flush line ∷ e)) image → P image) [
    | zero ↦ λ image left. rest.each 0 image left
    | suc n ↦ λ image left. rest.each n image (record { kept = left.kept; at_least = left.at_least; at_most = left.at_most; is = left.is })
  ];
}

-- nor is a fence
pub by_fence : (base : List ℕ) (e : List Event) (P : List ℕ → Type 0) → CrashOnly base e P → CrashOnly base (Fence ∷ e) P
by_fence base e P rest = record {
  each = λ n. elim n as (λ n. (image : List ℕ) → IsImage base (take n (Fence ∷ e)) image → P image) [
    | zero ↦ λ image left. rest.each 0 image left
    | suc n ↦ λ image left. rest.each n image (record { kept = left.kept; at_least = left.at_least; at_most = left.at_most; is = left.is })
  ];
}

-- a store is done or not
pub by_store : (base : List ℕ) (at value : ℕ) (e : List Event) (P : List ℕ → Type 0) →
    CrashOnly base e P → CrashOnly (put_word base (at / 8) value) e P → CrashOnly base (Store at value ∷ e) P
by_store base at value e P without with_it = record {
  each = λ n. elim n as (λ n. (image : List ℕ) → IsImage base (take n (Store at value ∷ e)) image → P image) [
    | zero ↦ λ image left. without.each 0 image left
    | suc n ↦ λ image left. ⊎_elim (without.each n image) (with_it.each n image) (first_store base at value (take n e) image left)
  ];
}

-- P holds where each store is done or not, in order
abbrev pub Leaves : List ℕ → List Event → (List ℕ → Type 0) → Type 0
Leaves base [] P = P base
Leaves base (Store at value ∷ e) P = Leaves base e P × Leaves (put_word base (at / 8) value) e P
Leaves base (Flush line ∷ e) P = Leaves base e P
Leaves base (Fence ∷ e) P = Leaves base e P

-- where P holds for each choice of stores, it holds after every crash
pub by_stores : (base : List ℕ) (e : List Event) (P : List ℕ → Type 0) → Leaves base e P → CrashOnly base e P
by_stores base [] P here = by_none base P here
by_stores base (Store at value ∷ e) P here = by_store base at value e P (by_stores base e P here.0) (by_stores (put_word base (at / 8) value) e P here.1)
by_stores base (Flush line ∷ e) P here = by_flush base line e P (by_stores base e P here)
by_stores base (Fence ∷ e) P here = by_fence base e P (by_stores base e P here)
