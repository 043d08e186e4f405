-- The images of events: the words where each line keeps so many of its stores.
use Rattle.std.proofs.Common.{◌≡◌, ◌≢◌, ◌⊎◌, ◌&&◌, ℕ, zero, suc, ◌+◌, ◌-◌, ◌/◌, ◌<◌, ◌≤◌, Bool, true, false, cond, List, [], ◌∷◌, ◌++◌, length, take, sym, ◌∙◌, ap, subst, refl, inl, inr, ⊎_elim, arith, eqb, ltb}
use Rattle.std.proofs.lemmas.Bool.{cases_Bool, eq-eqb, lt-ltb, cond-true, cond-false, cases_lt, cases_eq, ne_eqb, le-ltb}
use Rattle.std.proofs.lemmas.List.{append-nil}
use Rattle.pmem_lines.specs.declared.event.Event.{Event}
use Rattle.pmem_lines.specs.declared.event.Event.TheVariants.{Store, Flush, Fence}
use Rattle.pmem_lines.specs.Words.{word_at, put_word}
use Rattle.pmem_lines.proofs.Words.{length-put_word, word_at-put_same, word_at-put_other, put_word-past}
use Rattle.pmem_lines.specs.Events.{reading, is_flushed, all_of, done_of, IsQuiet, less_one, image_of, IsImage, IsStored}
use Rattle.pmem_lines.proofs.Quiet.{all_of-append, done_of-append, done_of_unflushed}

-- equal counts make equal images
pub image_of-same : (j k : ℕ → ℕ) → ((l : ℕ) → j l ≡ k l) → (base : List ℕ) (events : List Event) → image_of j base events ≡ image_of k base events
image_of-same j k same base events = ap (λ (f : ℕ → ℕ). image_of f base events) (λ i l. same l i)

-- an image has as many words
pub length-image_of : (kept : ℕ → ℕ) (base : List ℕ) (events : List Event) → length (image_of kept base events) ≡ length base
length-image_of kept base [] = refl
length-image_of kept base (Store at value ∷ events) =
    let skipped = length-image_of kept base events in
    let stored = length-image_of (less_one kept (at / 64)) (put_word base (at / 8) value) events ∙ length-put_word base (at / 8) value in
    elim (ltb 0 (kept (at / 64))) as (λ b. length (cond b (image_of (less_one kept (at / 64)) (put_word base (at / 8) value) events) (image_of kept base events)) ≡ length base) [ true ↦ stored | false ↦ skipped ]
length-image_of kept base (Flush line ∷ events) = length-image_of kept base events
length-image_of kept base (Fence ∷ events) = length-image_of kept base events

-- a word after a store to word i
placed : (base : List ℕ) (i value word x : ℕ) (R : Type 0) → x ≡ word_at (put_word base i value) word → (x ≡ word_at base word) ⊎ (((i ≡ word) × (value ≡ x)) ⊎ R)
placed base i value word x R same =
    ⊎_elim
    (λ (here : word ≡ i). ⊎_elim
    (λ (inside : i < length base). inr (inl (sym here, sym (same ∙ word_at-put_same base i word value (sym here) inside))))
    (λ past. inl (same ∙ ap (λ (l : List ℕ). word_at l word) (put_word-past base i value past)))
    (cases_lt i (length base)))
    (λ other. inl (same ∙ word_at-put_other base i word value other))
    (cases_eq word i)

-- each word is the old one or was stored
pub blend_of : (kept : ℕ → ℕ) (base : List ℕ) (events : List Event) (word : ℕ) →
    (word_at (image_of kept base events) word ≡ word_at base word) ⊎ IsStored events word (word_at (image_of kept base events) word)
blend_of kept base [] word = inl refl
blend_of kept base (Store at value ∷ events) word =
    let P : List ℕ → Type 0 = λ image. (word_at image word ≡ word_at base word) ⊎ (((at / 8 ≡ word) × (value ≡ word_at image word)) ⊎ IsStored events word (word_at image word)) in
    let image = image_of (less_one kept (at / 64)) (put_word base (at / 8) value) events in
    let stored : P image = ⊎_elim
    (λ (same : word_at image word ≡ word_at (put_word base (at / 8) value) word). placed base (at / 8) value word (word_at image word) _ same)
    (λ later. inr (inr later))
    (blend_of (less_one kept (at / 64)) (put_word base (at / 8) value) events word) in
    let skipped : P (image_of kept base events) = ⊎_elim (λ same. inl same) (λ later. inr (inr later)) (blend_of kept base events word) in
    elim (ltb 0 (kept (at / 64))) as (λ b. P (cond b image (image_of kept base events))) [ true ↦ stored | false ↦ skipped ]
blend_of kept base (Flush line ∷ events) word = blend_of kept base events word
blend_of kept base (Fence ∷ events) word = blend_of kept base events word

-- a store among the first events is a store
pub IsStored-take : (n : ℕ) (events : List Event) (word value : ℕ) → IsStored (take n events) word value → IsStored events word value
IsStored-take zero events word value s = absurd s
IsStored-take (suc n) [] word value s = s
IsStored-take (suc n) (Store at v ∷ events) word value s = ⊎_elim (λ here. inl here) (λ later. inr (IsStored-take n events word value later)) s
IsStored-take (suc n) (Flush line ∷ events) word value s = IsStored-take n events word value s
IsStored-take (suc n) (Fence ∷ events) word value s = IsStored-take n events word value s

-- the law of fences, for the words that the counts give
pub image_of-append : (kept : ℕ → ℕ) (base : List ℕ) (e f : List Event) → ((l : ℕ) → all_of l e ≤ kept l) →
    image_of kept base (e ++ f) ≡ image_of (λ l. kept l - all_of l e) (reading base e) f
image_of-append kept base [] f h = image_of-same kept (λ l. kept l - 0) (λ l. omega arith) base f
image_of-append kept base (Store at value ∷ e) f h =
    let m = at / 64 in
    let some : 0 < kept m = omega (arith, h m, one_at m) in
    let rest = image_of-append (less_one kept m) (put_word base (at / 8) value) e f (λ l. below (eqb m l) (kept l) (all_of l e) (h l)) in
    cond-true (ltb 0 (kept m)) (image_of (less_one kept m) (put_word base (at / 8) value) (e ++ f)) (image_of kept base (e ++ f)) (lt-ltb 0 (kept m) some)
    ∙ rest
    ∙ image_of-same (λ l. less_one kept m l - all_of l e) (λ l. kept l - all_of l (Store at value ∷ e)) (λ l. left (eqb m l) (kept l) (all_of l e)) (reading (put_word base (at / 8) value) e) f
  where
    one_at : (m : ℕ) → ◌≡◌ {A = ℕ} (cond (eqb m m) 1 0) 1
    one_at m = rw (eq-eqb m m refl)

    below : (b : Bool) (k n : ℕ) → cond b 1 0 + n ≤ k → n ≤ cond b (k - 1) k
    below b k n = elim b as (λ b. cond b 1 0 + n ≤ k → n ≤ cond b (k - 1) k) [ true ↦ λ h. omega arith | false ↦ λ h. omega arith ]

    left : (b : Bool) (k n : ℕ) → cond b (k - 1) k - n ≡ k - (cond b 1 0 + n)
    left b k n = elim b as (λ b. cond b (k - 1) k - n ≡ k - (cond b 1 0 + n)) [ true ↦ omega arith | false ↦ omega arith ]
image_of-append kept base (Flush l ∷ e) f h = image_of-append kept base e f h
image_of-append kept base (Fence ∷ e) f h = image_of-append kept base e f h

-- Law of fences: behind events that are quiet, images begin anew with what is read.
pub fences : (base : List ℕ) (e f : List Event) (image : List ℕ) → IsQuiet e → IsImage base (e ++ f) image → IsImage (reading base e) f image
fences base e f image quiet left =
    let counts : (l : ℕ) → all_of l e + done_of l f ≤ left.kept l = λ l. omega (arith, left.at_least l, done_of-append l e f quiet) in
    record {
      kept = λ l. left.kept l - all_of l e;
      at_least = λ l. omega (arith, counts l);
      at_most = λ l. omega (arith, left.at_most l, all_of-append l e f);
      is = left.is ∙ image_of-append left.kept base e f (λ l. omega (arith, counts l));
    }

-- and every image of what follows is one of the whole
pub fences_back : (base : List ℕ) (e f : List Event) (image : List ℕ) → IsQuiet e → IsImage (reading base e) f image → IsImage base (e ++ f) image
fences_back base e f image quiet left = record {
  kept = λ l. all_of l e + left.kept l;
  at_least = λ l. omega (arith, left.at_least l, done_of-append l e f quiet);
  at_most = λ l. omega (arith, left.at_most l, all_of-append l e f);
  is = left.is
      ∙ image_of-same left.kept (λ l. (all_of l e + left.kept l) - all_of l e) (λ l. omega arith) (reading base e) f
      ∙ sym (image_of-append (λ l. all_of l e + left.kept l) base e f (λ l. omega arith));
}

-- Law of places: a word to which no event stores stays in every image.
pub places : (base : List ℕ) (events : List Event) (image : List ℕ) (word : ℕ) →
    ((value : ℕ) → IsStored events word value → ⊥) → IsImage base events image → word_at image word ≡ word_at base word
places base events image word none left =
    rw left.is (⊎_elim (λ same. same) (λ s. absurd (none _ s)) (blend_of left.kept base events word))

-- with no events there is one image
pub image_of_none : (base image : List ℕ) → IsImage base [] image → image ≡ base
image_of_none base image left = left.is

-- a quiet list has one image, what is read
pub image_of_quiet : (base : List ℕ) (e : List Event) (image : List ℕ) → IsQuiet e → IsImage base e image → image ≡ reading base e
image_of_quiet base e image quiet left = (fences base e [] image quiet (subst (λ es. IsImage base es image) (sym (append-nil e)) left)).is

-- what is read is an image of a quiet list
pub quiet_image : (base : List ℕ) (e : List Event) → IsQuiet e → IsImage base e (reading base e)
quiet_image base e quiet =
    subst (λ (es : List Event). IsImage base es (reading base e)) (append-nil e)
    (fences_back base e [] (reading base e) quiet (record { kept = λ _. 0; at_least = λ _. omega arith; at_most = λ _. omega arith; is = refl }))

-- an image after a store is one with the store or one without it
pub first_store : (base : List ℕ) (at value : ℕ) (e : List Event) (image : List ℕ) → IsImage base (Store at value ∷ e) image →
    IsImage base e image ⊎ IsImage (put_word base (at / 8) value) e image
first_store base at value e image left =
    let m = at / 64 in
    ⊎_elim
    (λ (some : 0 < left.kept m). inr (record {
      kept = less_one left.kept m;
      at_least = λ l. taken l (eqb m l) (left.kept l) refl (left.at_least l);
      at_most = λ l. fewer (eqb m l) (left.kept l) (all_of l e) (left.at_most l);
      is = left.is ∙ cond-true (ltb 0 (left.kept m)) (image_of (less_one left.kept m) (put_word base (at / 8) value) e) (image_of left.kept base e) (lt-ltb 0 (left.kept m) some);
    }))
    (λ (nothing : left.kept m ≤ 0). inl (record {
      kept = left.kept;
      at_least = λ l. omega (arith, left.at_least l);
      at_most = λ l. ⊎_elim
          (λ (same : m ≡ l). rw (← same) (omega (arith, nothing)))
          (λ (other : m ≢ l). omega (arith, left.at_most l, ap (λ b. ◌+◌ (cond b 1 0) (all_of l e)) (ne_eqb m l other)))
          (cases_eq m l);
      is = left.is ∙ cond-false (ltb 0 (left.kept m)) (image_of (less_one left.kept m) (put_word base (at / 8) value) e) (image_of left.kept base e) (le-ltb 0 (left.kept m) nothing);
    }))
    (cases_lt 0 (left.kept m))
  where
    fewer : (b : Bool) (k n : ℕ) → k ≤ cond b 1 0 + n → cond b (k - 1) k ≤ n
    fewer b k n = elim b as (λ b. k ≤ cond b 1 0 + n → cond b (k - 1) k ≤ n) [ true ↦ λ h. omega arith | false ↦ λ h. omega arith ]

    taken : (l : ℕ) (b : Bool) (k : ℕ) → eqb (at / 64) l ≡ b → cond (b && is_flushed l e) 1 0 + done_of l e ≤ k → done_of l e ≤ cond b (k - 1) k
    taken l b k = elim b as (λ b. eqb (at / 64) l ≡ b → cond (b && is_flushed l e) 1 0 + done_of l e ≤ k → done_of l e ≤ cond b (k - 1) k) [
      | true ↦ λ _ h. ⊎_elim
          (λ (yes : is_flushed l e ≡ true). omega (arith, ap (λ b. ◌+◌ (cond b 1 0) (done_of l e)) yes, h))
          (λ (no : is_flushed l e ≡ false). omega (arith, done_of_unflushed l e no))
          (cases_Bool (is_flushed l e))
      | false ↦ λ _ h. omega arith
    ]
