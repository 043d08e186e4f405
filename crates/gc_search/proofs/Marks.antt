-- Which granules the roots name, and which extents they leave loose.
use Rattle.std.proofs.Common.{◌≡◌, ◌≢◌, ◌↔◌, ℕ, ◌+◌, ◌/◌, ◌<◌, ◌≤◌, Bool, true, false, not, List, length, refl, sym, ap, ◌∙◌, arith, ⊎_elim, IsTrue}
use Rattle.std.proofs.lemmas.Bool.{cases_lt, false≢true, true≢false, false_from_ne_true}
use Rattle.pool_layout.specs.Layout.{layout_of}
use Rattle.pool_layout.specs.Header.{version_in, granules_in}
use Rattle.image_tables.specs.Tables.{Tables, is_slab, tables_of}
use Rattle.image_tables.proofs.Tables.{word_table-past}
use Rattle.book_log.specs.Book.{Book}
use Rattle.heap_check.specs.Sound.{IsLooseLarge, IsEmptySlab}
use Rattle.image_defects.specs.Count.{IsCount}
use Rattle.image_defects.proofs.Counts.{at_most}
use Rattle.defect_search.specs.Roots.{mark_in, IsNamedStart, IsNamedGranule, AreMarks}
use Rattle.gc_check.specs.Heap.{address_field, gc_tables}
use Rattle.gc_check.specs.Sound.{AreFewGcLoose}
use Rattle.gc_check.proofs.Tables.{over}
use Rattle.gc_search.specs.Known.{IsLogRead}
use Rattle.gc_search.proofs.Premises.{slab_high, large_lies}
use Rattle.gc_search.proofs.Standing.{gc_word, gc_large, gc_slab}

-- what a root holds is the address of its word
pub held_by : (words : List ℕ) (root word : ℕ) → word ≡ (tables_of words).word root → address_field word ≡ (gc_tables words).root root
held_by words root word is = ap address_field (is ∙ sym (gc_word words root)) ∙ sym ((over words).root root)

-- a root that holds something is one of the arena's
pub held_below : (words : List ℕ) (root : ℕ) → (gc_tables words).root root ≢ 0 → root < (layout_of (version_in words)).roots
held_below words root some = ⊎_elim
    (λ (below : root < (layout_of (version_in words)).roots). below)
    (λ (past : (layout_of (version_in words)).roots ≤ root). absurd (some (sym (held_by words root 0 (sym (word_table-past words root past))))))
    (cases_lt root (layout_of (version_in words)).roots)

-- loose things

pub no_loose_large : (words : List ℕ) (start large : ℕ) → large ≡ (tables_of words).large start → large ≡ 0 → ¬ (IsLooseLarge (gc_tables words) start)
no_loose_large words start large is none loose = omega (arith, loose.live, gc_large words start, is, none)

pub loose_large_by : (words : List ℕ) (marks : List Bool) (start large : ℕ) → large ≡ (tables_of words).large start → 0 < large → 0 < start → start < length marks → AreMarks (IsNamedStart (gc_tables words) (layout_of (version_in words)).roots) marks →
    ((not (mark_in marks start) ≡ true) ↔ IsLooseLarge (gc_tables words) start)
loose_large_by words marks start large is some late below are = by (mark_in marks start) refl
  where
    t : Tables
    t = gc_tables words

    by : (marked : Bool) → mark_in marks start ≡ marked → ((not marked ≡ true) ↔ IsLooseLarge (gc_tables words) start)
    by true test = (λ e. absurd (false≢true e), λ loose. let named = (are.each start below).0 test in absurd (loose.unnamed named.root named.here))
    by false test = (
      λ _. record {
        live = omega (arith, is, some, gc_large words start);
        unnamed = λ root here.
            let held : (gc_tables words).root root ≢ 0 = λ none. omega (arith, here, none, late) in
            true≢false (sym ((are.each start below).1 (record { root = root; below = held_below words root held; some = held; here = here })) ∙ test);
      },
      λ _. refl,
    )

pub no_empty_slab : (words : List ℕ) (start : ℕ) → is_slab words start ≡ false → ¬ (IsEmptySlab (gc_tables words) start)
no_empty_slab words start none empty = true≢false (sym empty.slab ∙ gc_slab words start ∙ none)

pub empty_slab_by : (words : List ℕ) (marks : List Bool) (start : ℕ) (unmet : Bool) → is_slab words start ≡ true → start + 4 ≤ length marks → AreMarks (IsNamedGranule (gc_tables words) (layout_of (version_in words)).roots) marks →
    (IsTrue unmet ↔ ((k : ℕ) → start ≤ k → k < start + 4 → mark_in marks k ≡ false)) → (IsTrue unmet ↔ IsEmptySlab (gc_tables words) start)
empty_slab_by words marks start unmet is below are clear = (
  λ e. record {
    slab = gc_slab words start ∙ is;
    none = λ root some inside.
        let k = (gc_tables words).root root / 16384 in
        let marked : mark_in marks k ≡ true = (are.each k (omega (arith, inside.low, inside.high))).1 (record { root = root; below = held_below words root some; some = some; here = refl }) in
        true≢false (sym marked ∙ clear.0 e k (omega (arith, inside.low)) (omega (arith, inside.high)));
  },
  λ empty. clear.1 (λ k low high. false_from_ne_true (mark_in marks k) (λ marked.
      let named = (are.each k (omega arith)).0 marked in
      empty.none named.root named.some (record { slab = empty.slab; low = omega (arith, named.here); high = omega (arith, named.here) }))),
)

-- of each kind there is one at most where neither count is above 1
pub few_of : {words : List ℕ} {log : Book} (read : IsLogRead words log) (large empty : ℕ) → IsCount (IsLooseLarge (gc_tables words)) (granules_in words) large → IsCount (IsEmptySlab (gc_tables words)) (granules_in words) empty → large ≤ 1 → empty ≤ 1 → AreFewGcLoose (gc_tables words)
few_of {words} {log} read large empty larges empties few none = record {
  large = at_most (IsLooseLarge (gc_tables words)) (granules_in words) large (λ k p. let live = gc_large words k in omega (arith, live, p.live, large_lies read k (omega (arith, live, p.live)))) larges few;
  empty = at_most (IsEmptySlab (gc_tables words)) (granules_in words) empty (λ k p. omega (arith, slab_high read k (sym (gc_slab words k) ∙ p.slab))) empties none;
}
