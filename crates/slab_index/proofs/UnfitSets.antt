-- Which slabs are unfit, after one was noted or forgotten.
use Rattle.std.proofs.Common.{◌≡◌, ◌≢◌, ℕ, ◌+◌, ◌*◌, ◌/◌, ◌%◌, ◌<◌, ◌≤◌, ⊎_elim, Bool, true, false, cond, eqb, ltb, ◌&&◌, List, replicate, refl, sym, ap, ◌∙◌, arith}
use Rattle.slab_index.proofs.Common.{cases_lt, cases_eq, eq-eqb, ne_eqb, lt-ltb, le-ltb, cond-true, cond-false, and_left, and_right, and_from, both_ways, false_from_ne_true, false≢true, length-replicate, get_or_past, has, IsPut, IsFilled, has-zeros, has-zero, has_filled}
use Rattle.slab_index.specs.Unfit.{is_unfit, AreNoted, IsForgottenBelow}

-- of a slab below 4096 its numbers tell, and none that begins behind is unfit
unfit_low : (set : List ℕ) (class start : ℕ) → start < 4096 → is_unfit set class start ≡ has set (4096 * class + start)
unfolding is_unfit
unfit_low set class start small = ap (λ b. b && has set (4096 * class + start)) (lt-ltb start 4096 small)

unfit_high : (set : List ℕ) (class start : ℕ) → 4096 ≤ start → is_unfit set class start ≡ false
unfolding is_unfit
unfit_high set class start past = ap (λ b. b && has set (4096 * class + start)) (le-ltb start 4096 past)

-- what holds of all slabs, where it holds of those below 4096
by_start : (old new : List ℕ) (test : ℕ → ℕ → Bool) (on : Bool) → ((c s : ℕ) → 4096 ≤ s → test c s ≡ false) →
    ((c s : ℕ) → s < 4096 → has new (4096 * c + s) ≡ cond (test c s) on (has old (4096 * c + s))) → (c s : ℕ) → is_unfit new c s ≡ cond (test c s) on (is_unfit old c s)
by_start old new test on above below c s = ⊎_elim
    (λ (small : s < 4096). unfit_low new c s small ∙ below c s small ∙ ap (cond (test c s) on) (sym (unfit_low old c s small)))
    (λ (past : 4096 ≤ s). unfit_high new c s past ∙ sym (unfit_high old c s past) ∙ sym (cond-false (test c s) on (is_unfit old c s) (above c s past)))
    (cases_lt s 4096)

-- none is
pub AreNoted-fresh : AreNoted (replicate 2304 0) (replicate 64 0)
AreNoted-fresh = record {
  size = length-replicate {A = ℕ} 2304 0;
  noted_size = length-replicate {A = ℕ} 64 0;
  covers = λ k is. absurd (false≢true (sym (has-zeros 2304 k) ∙ is));
}

pub unfit_fresh : (c s : ℕ) → is_unfit (replicate 2304 0) c s ≡ false
unfit_fresh c s = ⊎_elim
    (λ (small : s < 4096). unfit_low (replicate 2304 0) c s small ∙ has-zeros 2304 (4096 * c + s))
    (λ (past : 4096 ≤ s). unfit_high (replicate 2304 0) c s past)
    (cases_lt s 4096)

-- the place of a number
place_of : (c s : ℕ) → s < 4096 → (4096 * c + s) % 4096 ≡ s
place_of c s low = omega arith

module _ {old noted : List ℕ} (start : ℕ) (small : start < 4096) (kept : AreNoted old noted) where
  -- one is noted for a class
  module _ {new : List ℕ} (class : ℕ) (put : IsPut old (4096 * class + start) true new) where
    pub AreNoted-more : {noted' : List ℕ} → IsPut noted start true noted' → AreNoted new noted'
    AreNoted-more also = record {
      size = put.size ∙ kept.size;
      noted_size = also.size ∙ kept.noted_size;
      covers = λ k is. ⊎_elim
          (λ (here : k % 4096 ≡ start). also.each (k % 4096) ∙ cond-true (eqb (k % 4096) start) true (has noted (k % 4096)) (eq-eqb (k % 4096) start here))
          (λ (there : k % 4096 ≢ start).
          also.each (k % 4096)
          ∙ cond-false (eqb (k % 4096) start) true (has noted (k % 4096)) (ne_eqb (k % 4096) start there)
          ∙ kept.covers k (sym (put.each k ∙ cond-false (eqb k (4096 * class + start)) true (has old k) (ne_eqb k (4096 * class + start) (λ e. there (omega (arith, e, small))))) ∙ is))
          (cases_eq (k % 4096) start);
    }

    pub unfit_more : (c s : ℕ) → is_unfit new c s ≡ cond (eqb s start && eqb c class) true (is_unfit old c s)
    unfit_more = by_start old new (λ c s. eqb s start && eqb c class) true
        (λ c s past. and_left (eqb s start) (eqb c class) (ne_eqb s start (λ e. absurd (omega (arith, e, past, small)))))
        (λ c s low. put.each (4096 * c + s) ∙ ap (λ b. cond b true (has old (4096 * c + s))) (same_test c s low))
      where
        same_test : (c s : ℕ) → s < 4096 → eqb (4096 * c + s) (4096 * class + start) ≡ (eqb s start && eqb c class)
        same_test c s low = ⊎_elim
            (λ (here : s ≡ start). ⊎_elim
            (λ (same : c ≡ class).
            eq-eqb (4096 * c + s) (4096 * class + start) (omega (arith, here, same))
            ∙ sym (ap (λ b. b && eqb c class) (eq-eqb s start here) ∙ eq-eqb c class same))
            (λ (differ : c ≢ class). ne_eqb (4096 * c + s) (4096 * class + start) (λ e. differ (omega (arith, e, low, small))) ∙ sym (and_right (eqb s start) (eqb c class) (ne_eqb c class differ)))
            (cases_eq c class))
            (λ (there : s ≢ start). ne_eqb (4096 * c + s) (4096 * class + start) (λ e. there (omega (arith, e, low, small))) ∙ sym (and_left (eqb s start) (eqb c class) (ne_eqb s start there)))
            (cases_eq s start)

  -- what a slab that is forgotten had, and what the others have
  gone_here : {new : List ℕ} (gone : IsForgottenBelow old start 36 new) (k : ℕ) → k % 4096 ≡ start → has new k ≡ false
  gone_here {new} gone k here = ⊎_elim
      (λ (low : k / 4096 < 36). gone.each k ∙ cond-true (eqb (k % 4096) start && ltb (k / 4096) 36) false (has old k) (and_from (eqb (k % 4096) start) (ltb (k / 4096) 36) (eq-eqb (k % 4096) start here) (lt-ltb (k / 4096) 36 low)))
      (λ (past : 36 ≤ k / 4096). has-zero new k (get_or_past new (k / 64) 0 (omega (arith, gone.size, kept.size))))
      (cases_lt (k / 4096) 36)

  gone_there : {new : List ℕ} (gone : IsForgottenBelow old start 36 new) (k : ℕ) → k % 4096 ≢ start → has new k ≡ has old k
  gone_there gone k there = gone.each k ∙ cond-false (eqb (k % 4096) start && ltb (k / 4096) 36) false (has old k) (and_left (eqb (k % 4096) start) (ltb (k / 4096) 36) (ne_eqb (k % 4096) start there))

  -- one is forgotten
  pub AreNoted-less : {new noted' : List ℕ} → IsForgottenBelow old start 36 new → IsPut noted start false noted' → AreNoted new noted'
  AreNoted-less gone also = record {
    size = gone.size ∙ kept.size;
    noted_size = also.size ∙ kept.noted_size;
    covers = λ k is. ⊎_elim
        (λ (here : k % 4096 ≡ start). absurd (false≢true (sym (gone_here gone k here) ∙ is)))
        (λ (there : k % 4096 ≢ start).
        also.each (k % 4096)
        ∙ cond-false (eqb (k % 4096) start) false (has noted (k % 4096)) (ne_eqb (k % 4096) start there)
        ∙ kept.covers k (sym (gone_there gone k there) ∙ is))
        (cases_eq (k % 4096) start);
  }

  pub unfit_less : {new : List ℕ} → IsForgottenBelow old start 36 new → (c s : ℕ) → is_unfit new c s ≡ cond (eqb s start) false (is_unfit old c s)
  unfit_less {new} gone = by_start old new (λ c s. eqb s start) false
      (λ c s past. ne_eqb s start (λ e. absurd (omega (arith, e, past, small))))
      (λ c s low. ⊎_elim
      (λ (here : s ≡ start). gone_here gone (4096 * c + s) (place_of c s low ∙ here) ∙ sym (cond-true (eqb s start) false (has old (4096 * c + s)) (eq-eqb s start here)))
      (λ (there : s ≢ start). gone_there gone (4096 * c + s) (λ e. there (sym (place_of c s low) ∙ e)) ∙ sym (cond-false (eqb s start) false (has old (4096 * c + s)) (ne_eqb s start there)))
      (cases_eq s start))

  -- of one that no class has nothing has to be forgotten
  pub unfit_none : has noted start ≡ false → (c s : ℕ) → is_unfit old c s ≡ cond (eqb s start) false (is_unfit old c s)
  unfit_none none = by_start old old (λ c s. eqb s start) false
      (λ c s past. ne_eqb s start (λ e. absurd (omega (arith, e, past, small))))
      (λ c s low. ⊎_elim
      (λ (here : s ≡ start). clear (4096 * c + s) (place_of c s low ∙ here) ∙ sym (cond-true (eqb s start) false (has old (4096 * c + s)) (eq-eqb s start here)))
      (λ (there : s ≢ start). sym (cond-false (eqb s start) false (has old (4096 * c + s)) (ne_eqb s start there)))
      (cases_eq s start))
    where
      clear : (k : ℕ) → k % 4096 ≡ start → has old k ≡ false
      clear k here = false_from_ne_true (has old k) (λ is. both_ways (has noted start) none (ap (has noted) (sym here) ∙ kept.covers k is))

-- behind the slabs there is nothing to forget
pub unfit_past : (old : List ℕ) (start : ℕ) → 4096 ≤ start → (c s : ℕ) → is_unfit old c s ≡ cond (eqb s start) false (is_unfit old c s)
unfit_past old start past c s = ⊎_elim
    (λ (here : s ≡ start). unfit_high old c s (omega (arith, here, past)) ∙ sym (cond-true (eqb s start) false (is_unfit old c s) (eq-eqb s start here)))
    (λ (there : s ≢ start). sym (cond-false (eqb s start) false (is_unfit old c s) (ne_eqb s start there)))
    (cases_eq s start)

-- none is known any more for a class
module _ {old new noted : List ℕ} (class : ℕ) (filled : IsFilled old class 0 new) (kept : AreNoted old noted) where
  filled_at : (k : ℕ) → has new k ≡ cond (eqb (k / 4096) class) false (has old k)
  filled_at k = has_filled filled k ∙ ap (λ b. cond (eqb (k / 4096) class) b (has old k)) (le-ltb (k % 4096) 0 (omega arith))

  pub AreNoted-class : AreNoted new noted
  AreNoted-class = record {
    size = filled.size ∙ kept.size;
    noted_size = kept.noted_size;
    covers = λ k is. ⊎_elim
        (λ (here : k / 4096 ≡ class). absurd (false≢true (sym (filled_at k ∙ cond-true (eqb (k / 4096) class) false (has old k) (eq-eqb (k / 4096) class here)) ∙ is)))
        (λ (there : k / 4096 ≢ class). kept.covers k (sym (filled_at k ∙ cond-false (eqb (k / 4096) class) false (has old k) (ne_eqb (k / 4096) class there)) ∙ is))
        (cases_eq (k / 4096) class);
  }

  pub unfit_class : (c s : ℕ) → is_unfit new c s ≡ cond (eqb c class) false (is_unfit old c s)
  unfit_class c s = ⊎_elim
      (λ (small : s < 4096).
      let of_class : (4096 * c + s) / 4096 ≡ c = omega arith in
      unfit_low new c s small ∙ filled_at (4096 * c + s) ∙ ap (λ d. cond (eqb d class) false (has old (4096 * c + s))) of_class ∙ ap (cond (eqb c class) false) (sym (unfit_low old c s small)))
      (λ (past : 4096 ≤ s). unfit_high new c s past ∙ sym (ap (cond (eqb c class) false) (unfit_high old c s past) ∙ same (eqb c class)))
      (cases_lt s 4096)
    where
      same : (b : Bool) → cond b false false ≡ false
      same true = refl
      same false = refl

-- one class more
pub forgotten_more : {old mid new : List ℕ} (start class : ℕ) → start < 4096 → IsForgottenBelow old start class mid → IsPut mid (4096 * class + start) false new → IsForgottenBelow old start (class + 1) new
forgotten_more {old} {mid} {new} start class small gone put = record {
  size = put.size ∙ gone.size;
  each = λ k. put.each k ∙ ap (cond (eqb k (4096 * class + start)) false) (gone.each k) ∙ either k;
}
  where
    either : (k : ℕ) → cond (eqb k (4096 * class + start)) false (cond (eqb (k % 4096) start && ltb (k / 4096) class) false (has old k)) ≡ cond (eqb (k % 4096) start && ltb (k / 4096) (class + 1)) false (has old k)
    either k = ⊎_elim
        (λ (here : k % 4096 ≡ start). ⊎_elim
        (λ (now : k / 4096 ≡ class).
        cond-true (eqb k (4096 * class + start)) false _ (eq-eqb k (4096 * class + start) (omega (arith, here, now)))
        ∙ sym (cond-true (eqb (k % 4096) start && ltb (k / 4096) (class + 1)) false (has old k) (and_from (eqb (k % 4096) start) (ltb (k / 4096) (class + 1)) (eq-eqb (k % 4096) start here) (lt-ltb (k / 4096) (class + 1) (omega (arith, now))))))
        (λ (other : k / 4096 ≢ class).
        cond-false (eqb k (4096 * class + start)) false _ (ne_eqb k (4096 * class + start) (λ e. other (omega (arith, e, small))))
        ∙ ap (λ b. cond (eqb (k % 4096) start && b) false (has old k)) (same_below k other))
        (cases_eq (k / 4096) class))
        (λ (there : k % 4096 ≢ start).
        cond-false (eqb k (4096 * class + start)) false _ (ne_eqb k (4096 * class + start) (λ e. there (omega (arith, e, small))))
        ∙ cond-false (eqb (k % 4096) start && ltb (k / 4096) class) false (has old k) (and_left (eqb (k % 4096) start) (ltb (k / 4096) class) (ne_eqb (k % 4096) start there))
        ∙ sym (cond-false (eqb (k % 4096) start && ltb (k / 4096) (class + 1)) false (has old k) (and_left (eqb (k % 4096) start) (ltb (k / 4096) (class + 1)) (ne_eqb (k % 4096) start there))))
        (cases_eq (k % 4096) start)
      where
        same_below : (k : ℕ) → k / 4096 ≢ class → ltb (k / 4096) class ≡ ltb (k / 4096) (class + 1)
        same_below k other = ⊎_elim
            (λ (low : k / 4096 < class). lt-ltb (k / 4096) class low ∙ sym (lt-ltb (k / 4096) (class + 1) (omega (arith, low))))
            (λ (high : class ≤ k / 4096). le-ltb (k / 4096) class high ∙ sym (le-ltb (k / 4096) (class + 1) (omega (arith, high, other))))
            (cases_lt (k / 4096) class)

pub forgotten_none : (set : List ℕ) (start : ℕ) → IsForgottenBelow set start 0 set
forgotten_none set start = record {
  size = refl;
  each = λ k. sym (cond-false (eqb (k % 4096) start && ltb (k / 4096) 0) false (has set k) (and_right (eqb (k % 4096) start) (ltb (k / 4096) 0) (le-ltb (k / 4096) 0 (omega arith))));
}
