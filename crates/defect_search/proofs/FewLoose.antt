-- Of each kind of loose things there is one at most exactly where no count is above 1.
use Rattle.std.proofs.Common.{◌≡◌, ◌⊎◌, ◌↔◌, ℕ, ◌<◌, ◌≤◌, Bool, true, false, List, refl, sym, ◌∙◌, arith, inl, inr, ⊎_elim, IsTrue}
use Rattle.std.proofs.lemmas.Bool.{false≢true, true≢false, cases_lt}
use Rattle.defect_search.proofs.Common.{granules_in, tables_of, slab_table, IsLooseLarge, IsEmptySlab, IsMorphing, IsDoneSlab, AreFewLoose}
use Rattle.image_defects.specs.declared.found.Loose.{Loose}
use Rattle.image_defects.specs.Loose.{AreLoose, IsTooMany}
use Rattle.image_defects.proofs.Counts.{at_most, not_many}
use Rattle.defect_search.specs.Arena.{IsArena}

pub few_loose : (words : List ℕ) (loose : Loose) → IsArena words → AreLoose (tables_of words) (granules_in words) loose → ¬ (IsTooMany loose) → AreFewLoose (tables_of words)
few_loose words loose arena are few =
    let t = tables_of words in
    let n = granules_in words in
    let slab : (start : ℕ) → t.slab start ≡ true → start < n = λ start is. omega (arith, arena.slab start (sym (slab_table words start) ∙ is)) in
    let one : (a b c d : ℕ) → ¬ ((1 < a) ⊎ ((1 < b) ⊎ ((1 < c) ⊎ (1 < d)))) → (a ≤ 1) × (b ≤ 1) × (c ≤ 1) × (d ≤ 1) = λ a b c d none. (
      ⊎_elim (λ (many : 1 < a). absurd (none (inl many))) (λ (ok : a ≤ 1). ok) (cases_lt 1 a),
      ⊎_elim (λ (many : 1 < b). absurd (none (inr (inl many)))) (λ (ok : b ≤ 1). ok) (cases_lt 1 b),
      ⊎_elim (λ (many : 1 < c). absurd (none (inr (inr (inl many))))) (λ (ok : c ≤ 1). ok) (cases_lt 1 c),
      ⊎_elim (λ (many : 1 < d). absurd (none (inr (inr (inr many))))) (λ (ok : d ≤ 1). ok) (cases_lt 1 d),
    ) in
    let counts = one loose.large loose.empty loose.morphing loose.done few in
    record {
      large = at_most (IsLooseLarge t) n loose.large (λ k p. omega (arith, arena.large k p.live, p.live)) are.large counts.0;
      empty = at_most (IsEmptySlab t) n loose.empty (λ k p. slab k p.slab) are.empty counts.1;
      morphing = at_most (IsMorphing t) n loose.morphing (λ k p. slab k p.slab) are.morphing counts.2;
      done = at_most (IsDoneSlab t) n loose.done (λ k p. slab k p.slab) are.done counts.3;
    }

pub few_by : (words : List ℕ) (loose : Loose) (many : Bool) → (IsTrue many ↔ IsTooMany loose) → IsArena words → AreLoose (tables_of words) (granules_in words) loose → ((many ≡ false) ↔ AreFewLoose (tables_of words))
few_by words loose true is arena are = (λ e. absurd (true≢false e), λ few. absurd (not_many (tables_of words) (granules_in words) loose are few (is.0 refl)))
few_by words loose false is arena are = (λ _. few_loose words loose arena are (λ many. false≢true (is.1 many)), λ _. refl)
