-- The search for the slab that takes a class: the candidates come in order, so the first one that is fit is the best; and what
-- was found unfit stays known.
use Rattle.std.proofs.Common.{◌≡◌, ◌==◌, ◌&&◌, if◌then◌else◌, ℕ, ◌*◌, ◌<◌, ◌≤◌, Bool, true, false, refl, ap, List, Some, None, sym, ◌∙◌, subst, arith, inl, inr, ⊎_elim}
use Rattle.arena_core.proofs.Common.{cases_lt, cond-true, class_capacity, normal_kind, Tables, tables_of, IsBestSlab, HasNoFitSlab, live_below, Lives, heap, bounds_of, AreCountsOf, is_unfit, HasNoUnused, AreLivesOf, tables_view, IsMorphable}
use Rattle.heap_model.specs.Choice.{View, IsFit, slab_view}
use Rattle.slab_index.specs.declared.candidates.Candidate.{Candidate}
use Rattle.slab_index.specs.Lives.{IsSparse, HasNoSparse, IsFirstSparse}
use Rattle.slab_index.proofs.Noting.{same_normal}
use Rattle.std.proofs.lemmas.Bool.{false_from_ne_true, and_parts, eqb-true}
use Rattle.transition_steps.specs.Classes.{IsReadyFor, IsFitIn}
use Rattle.heap_check.proofs.NormalSlabs.{normal_of-parts}

module _ (words : List ℕ) (lives : Lives) (class : ℕ) (are : AreLivesOf lives words) where
  abbrev t : Tables
  t = tables_of words

  abbrev v : View
  v = tables_view (bounds_of words) (tables_of words)

  -- a candidate is a normal slab
  pub sparse_slab : (start live : ℕ) → IsSparse lives class start live → ((tables_of words).slab start ≡ true) × (((tables_of words).header start).kind ≡ normal_kind)
  sparse_slab start live is = let parts = normal_of-parts t start is.own (sym (are.normal start) ∙ is.slab) in (parts.0, parts.1)

  -- a slab that is fit was not found unfit
  sought : (s : ℕ) → IsFit (slab_view v) class s → is_unfit lives.unfit class s ≡ false
  sought s fit = false_from_ne_true (is_unfit lives.unfit class s) (λ noted. (are.unfit class s noted).none fit.number fit.block.within (record { each = λ range holds. fit.block.unused.each range holds }))

  -- so it is a candidate
  sparse_of_fit : (s : ℕ) → IsFit (slab_view v) class s → IsSparse lives class s (live_below (heap t) s (bounds_of words).roots)
  sparse_of_fit s fit = let new = sought s fit in grind arith

  -- where there is no candidate no slab is fit
  pub none_fit : HasNoSparse lives class → HasNoFitSlab (slab_view (tables_view (bounds_of words) (tables_of words))) class
  none_fit none = record { none = λ s fit. none.none s _ (sparse_of_fit s fit) }

  -- the first candidate is the best slab, if it is fit
  pub best_sought : (found : Candidate) → IsFirstSparse lives class found → IsReadyFor words found.start class → IsBestSlab (slab_view (tables_view (bounds_of words) (tables_of words))) class found.start × IsMorphable (tables_of words) found.start class
  best_sought found first ready =
      let is = first.is in
      let parts = normal_of-parts t found.start is.own (sym (are.normal found.start) ∙ is.slab) in
      let live : found.live ≡ live_below (heap t) found.start (bounds_of words).roots = is.count ∙ are.counts.each found.start ∙ cond-true (t.slab found.start) _ 0 ready.slab in (
        record {
          fit = record {
            class = (t.header found.start).class;
            slab = cond-true (t.slab found.start) (Some (t.header found.start).class) None ready.slab;
            no_transition = λ moving. moving ready.normal;
            differs = λ own. is.differs (own ∙ sym parts.2);
            few = omega (arith, live, is.few);
            sparse = subst (λ (c : ℕ). 5 * live_below (heap t) found.start (bounds_of words).roots ≤ class_capacity c) parts.2 (omega (arith, live, is.sparse));
            number = ready.fit.number;
            block = record { within = ready.fit.block.within; unused = record { each = λ range holds. ⊎_elim inr inl (ready.fit.block.unused.each range holds) } };
          };
          fewest = λ s fit. ⊎_elim (λ less. absurd (first.first s _ (sparse_of_fit s fit) (inl (omega (arith, less, live))))) (λ most. most) (cases_lt (live_below (heap t) s (bounds_of words).roots) (live_below (heap t) found.start (bounds_of words).roots));
          lowest = λ s fit same. ⊎_elim (λ less. absurd (first.first s _ (sparse_of_fit s fit) (inr (same ∙ sym live, less)))) (λ most. most) (cases_lt s found.start);
        },
        record { slab = ready.slab; normal = ready.normal; fit = ready.fit },
      )

  -- one that is not is unfit, and may be noted so
  pub lives_noted : (found : Candidate) (next : Lives) → IsFirstSparse lives class found → ¬ (IsFitIn words found.start class) → next.counts ≡ lives.counts → next.normal ≡ lives.normal →
      ((c s : ℕ) → is_unfit next.unfit c s ≡ (if s == found.start && c == class then true else is_unfit lives.unfit c s)) → AreLivesOf next words
  lives_noted found next first unfit counts normal noted = record {
    counts = subst (λ (n : List ℕ). AreCountsOf n words) (sym counts) are.counts;
    normal = λ s. sym (same_normal lives next normal s) ∙ are.normal s;
    unfit = λ c s known. by c s (s == found.start && c == class) refl known;
  }
    where
      here : HasNoUnused words found.start class
      here =
          let is = first.is in
          let parts = normal_of-parts t found.start is.own (sym (are.normal found.start) ∙ is.slab) in
          let live : found.live ≡ live_below (heap t) found.start (bounds_of words).roots = is.count ∙ are.counts.each found.start ∙ cond-true (t.slab found.start) _ 0 parts.0 in
          record {
            none = λ number below unused. unfit (record {
              differs = λ own. is.differs (own ∙ sym parts.2);
              few = omega (arith, live, is.few);
              sparse = subst (λ (c : ℕ). 5 * live_below (heap t) found.start (bounds_of words).roots ≤ class_capacity c) parts.2 (omega (arith, live, is.sparse));
              number = number;
              below = below;
              unused = unused;
            });
          }

      by : (c s : ℕ) (b : Bool) → (s == found.start && c == class) ≡ b → is_unfit next.unfit c s ≡ true → HasNoUnused words s c
      by c s true is known = let parts = and_parts (s == found.start) (c == class) is in subst (λ d. HasNoUnused words s d) (sym (eqb-true c class parts.1)) (subst (λ d. HasNoUnused words d class) (sym (eqb-true s found.start parts.0)) here)
      by c s false is known = are.unfit c s (sym (noted c s ∙ ap (λ b. if b then true else is_unfit lives.unfit c s) is) ∙ known)
