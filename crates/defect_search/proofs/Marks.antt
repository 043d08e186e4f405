-- Which granules the roots name, and which extents they leave loose.
use Rattle.std.proofs.Common.{◌≡◌, ◌≢◌, ◌⊎◌, ◌↔◌, ℕ, ◌+◌, ◌*◌, ◌/◌, ◌<◌, ◌≤◌, Bool, true, false, List, length, refl, sym, ap, subst, ◌∙◌, arith, inl, inr, ⊎_elim, IsTrue, not, eqb}
use Rattle.std.proofs.lemmas.Bool.{cases_eq, cases_lt, false≢true, true≢false, false_from_ne_true, eqb-true, eq-eqb}
use Rattle.defect_search.proofs.Common.{Tables, is_slab, state_field, tables_of, slab_table, slab_fields, root_table-past, layout_of, version_in, layout_rules, IsLooseLarge, IsEmptySlab, IsMorphing, IsDoneSlab}
use Rattle.defect_search.specs.Arena.{IsArena}
use Rattle.defect_search.specs.Roots.{mark_in, IsNamedStart, IsNamedGranule, AreMarks}

pub starts_more : (t : Tables) (root word : ℕ) (old new : List Bool) → word ≡ t.root root → length new ≡ length old →
    ((j : ℕ) → j < length old → ((mark_in new j ≡ true) ↔ ((mark_in old j ≡ true) ⊎ ((word ≢ 0) × (word ≡ 16384 * j))))) → AreMarks (IsNamedStart t root) old → AreMarks (IsNamedStart t (root + 1)) new
starts_more t root word old new is size step are = record {
  each = λ k below.
      let inside : k < length old = omega (arith, size) in (
        λ marked. ⊎_elim
            (λ (before : mark_in old k ≡ true). let n = (are.each k inside).0 before in record { root = n.root; below = omega (arith, n.below); some = n.some; here = n.here })
            (λ (now : (word ≢ 0) × (word ≡ 16384 * k)). record { root = root; below = omega arith; some = λ none. now.0 (is ∙ none); here = sym is ∙ now.1 })
            ((step k inside).0 marked),
        λ named. (step k inside).1 (⊎_elim
            (λ (same : named.root ≡ root). inr ((λ none. named.some (ap t.root same ∙ sym is ∙ none)), is ∙ sym (ap t.root same) ∙ named.here))
            (λ (other : named.root ≢ root). inl ((are.each k inside).1 (record { root = named.root; below = omega (arith, named.below); some = named.some; here = named.here })))
            (cases_eq named.root root)),
      );
}

pub granules_more : (t : Tables) (root word : ℕ) (old new : List Bool) → word ≡ t.root root → length new ≡ length old →
    ((j : ℕ) → j < length old → ((mark_in new j ≡ true) ↔ ((mark_in old j ≡ true) ⊎ ((word ≢ 0) × (word / 16384 ≡ j))))) → AreMarks (IsNamedGranule t root) old → AreMarks (IsNamedGranule t (root + 1)) new
granules_more t root word old new is size step are = record {
  each = λ k below.
      let inside : k < length old = omega (arith, size) in (
        λ marked. ⊎_elim
            (λ (before : mark_in old k ≡ true). let n = (are.each k inside).0 before in record { root = n.root; below = omega (arith, n.below); some = n.some; here = n.here })
            (λ (now : (word ≢ 0) × (word / 16384 ≡ k)). record { root = root; below = omega arith; some = λ none. now.0 (is ∙ none); here = ap (λ w. w / 16384) (sym is) ∙ now.1 })
            ((step k inside).0 marked),
        λ named. (step k inside).1 (⊎_elim
            (λ (same : named.root ≡ root). inr ((λ none. named.some (ap t.root same ∙ sym is ∙ none)), ap (λ w. w / 16384) (is ∙ sym (ap t.root same)) ∙ named.here))
            (λ (other : named.root ≢ root). inl ((are.each k inside).1 (record { root = named.root; below = omega (arith, named.below); some = named.some; here = named.here })))
            (cases_eq named.root root)),
      );
}

pub no_starts : (t : Tables) (marks : List Bool) → ((k : ℕ) → mark_in marks k ≡ false) → AreMarks (IsNamedStart t 0) marks
no_starts t marks none = record { each = λ k below. (λ marked. absurd (true≢false (sym marked ∙ none k)), λ named. absurd (omega (arith, named.below))) }

pub no_granules : (t : Tables) (marks : List Bool) → ((k : ℕ) → mark_in marks k ≡ false) → AreMarks (IsNamedGranule t 0) marks
no_granules t marks none = record { each = λ k below. (λ marked. absurd (true≢false (sym marked ∙ none k)), λ named. absurd (omega (arith, named.below))) }

-- a root whose word is not 0 is among the first
pub root_below : (words : List ℕ) (root : ℕ) → (tables_of words).root root ≢ 0 → root < (layout_of (version_in words)).roots
root_below words root some = ⊎_elim
    (λ (below : root < (layout_of (version_in words)).roots). below)
    (λ (past : (layout_of (version_in words)).roots ≤ root). absurd (some (root_table-past words root past)))
    (cases_lt root (layout_of (version_in words)).roots)

pub loose_large_by : (words : List ℕ) (marks : List Bool) (start large : ℕ) → large ≡ (tables_of words).large start → 0 < large → 0 < start → start < length marks → AreMarks (IsNamedStart (tables_of words) (layout_of (version_in words)).roots) marks →
    ((not (mark_in marks start) ≡ true) ↔ IsLooseLarge (tables_of words) start)
loose_large_by words marks start large is some late below are = by (mark_in marks start) refl
  where
    t : Tables
    t = tables_of words

    by : (marked : Bool) → mark_in marks start ≡ marked → ((not marked ≡ true) ↔ IsLooseLarge (tables_of words) start)
    by true test = (λ e. absurd (false≢true e), λ loose. let named = (are.each start below).0 test in absurd (loose.unnamed named.root named.here))
    by false test = (
      λ _. record {
        live = omega (arith, is, some);
        unnamed = λ root here.
            let word : (tables_of words).root root ≢ 0 = λ none. omega (arith, here, none, late) in
            true≢false (sym ((are.each start below).1 (record { root = root; below = root_below words root word; some = word; here = here })) ∙ test);
      },
      λ _. refl,
    )

pub empty_slab_by : (words : List ℕ) (marks : List Bool) (start : ℕ) (unmet : Bool) → is_slab words start ≡ true → start + 4 ≤ length marks → AreMarks (IsNamedGranule (tables_of words) (layout_of (version_in words)).roots) marks →
    (IsTrue unmet ↔ ((k : ℕ) → start ≤ k → k < start + 4 → mark_in marks k ≡ false)) → (IsTrue unmet ↔ IsEmptySlab (tables_of words) start)
empty_slab_by words marks start unmet is below are clear = (
  λ e. record {
    slab = slab_table words start ∙ is;
    none = λ root some inside.
        let k = (tables_of words).root root / 16384 in
        let marked : mark_in marks k ≡ true = (are.each k (omega (arith, inside.low, inside.high))).1 (record { root = root; below = root_below words root some; some = some; here = refl }) in
        true≢false (sym marked ∙ clear.0 e k (omega (arith, inside.low)) (omega (arith, inside.high)));
  },
  λ empty. clear.1 (λ k low high. false_from_ne_true (mark_in marks k) (λ marked.
      let named = (are.each k (omega arith)).0 marked in
      empty.none named.root named.some (record { slab = empty.slab; low = omega (arith, named.here); high = omega (arith, named.here) }))),
)

pub morphing_by : (words : List ℕ) (start : ℕ) (is : Bool) → (IsTrue is ↔ ((is_slab words start ≡ true) × (((tables_of words).header start).kind ≡ 2))) → (IsTrue is ↔ IsMorphing (tables_of words) start)
morphing_by words start is says = (
  λ e. record { slab = slab_table words start ∙ (says.0 e).0; kind = (says.0 e).1 },
  λ m. says.1 (sym (slab_table words start) ∙ m.slab, m.kind),
)

pub done_by : (words : List ℕ) (start : ℕ) (dead : Bool) → is_slab words start ≡ true → ((tables_of words).header start).kind ≡ 3 → (IsTrue dead ↔ ((place : ℕ) → place < state_field words start 24 → ((tables_of words).header start).live place ≡ false)) → (IsTrue dead ↔ IsDoneSlab (tables_of words) start)
done_by words start dead is kind clear = (
  λ e. record { slab = slab_table words start ∙ is; kind = kind; none = λ place below. clear.0 e place (subst (λ n. place < n) (slab_fields words start).index_count below) },
  λ done. clear.1 (λ place below. done.none place (subst (λ n. place < n) (sym (slab_fields words start).index_count) below)),
)

pub roots_inside : (words : List ℕ) → IsArena words → 2048 + (layout_of (version_in words)).roots ≤ length words
roots_inside words arena =
    let rules = layout_rules (version_in words) in
    omega (arith, arena.size, arena.least, rules.roots, rules.heap, rules.some_granule)

pub kind_by : (words : List ℕ) (start kind field : ℕ) → is_slab words start ≡ true → field ≡ state_field words start 0 → (IsTrue (eqb field kind) ↔ ((is_slab words start ≡ true) × (((tables_of words).header start).kind ≡ kind)))
kind_by words start kind field slab is = (
  λ e. (slab, (slab_fields words start).kind ∙ sym is ∙ eqb-true field kind e),
  λ both. eq-eqb field kind (is ∙ sym (slab_fields words start).kind ∙ both.1),
)
