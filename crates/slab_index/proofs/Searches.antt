-- The first candidate, from the sets of words that candidates keep.
use Rattle.std.proofs.Common.{◌≡◌, ℕ, ◌+◌, ◌*◌, ◌/◌, ◌%◌, ◌<◌, ◌≤◌, ⊎_elim, Bool, true, false, eqb, leb, ◌&&◌, List, Option, Some, None, length, get_or, refl, sym, ap, ◌∙◌, subst, arith}
use Rattle.slab_index.proofs.Common.{cases_lt, eq-eqb, eqb-true, ne_eqb, le-leb, leb-true, lt-ltb, and_parts, and_from, both_ways, false≢true, get_or_past, none-some, class_capacity, has}
use Rattle.slab_index.specs.declared.candidates.NormalSlab.{NormalSlab}
use Rattle.slab_index.specs.Candidates.{IsCandidate, HasNoCandidate, IsFirstCandidate}
use Rattle.slab_index.specs.Unfit.{is_unfit}
use Rattle.slab_index.specs.Sparse.{has_live, has_class, AreKept, IsOther, HasNoneInRow, IsFirstInRow}
use Rattle.slab_index.proofs.Marks.{normal_of_list}

-- a slab that a test of live blocks finds
record IsLiveSlab (slab : Option NormalSlab) (n : ℕ) : Type 0 where
  own : ℕ
  is : slab ≡ Some (record { class = own; live = n })
  few : n ≤ 64
  sparse : 5 * n ≤ class_capacity own

live_slab : (slab : Option NormalSlab) (n : ℕ) → has_live slab n ≡ true → IsLiveSlab slab n
live_slab None n test = absurd (false≢true test)
live_slab (Some slab) n test =
    let parts = and_parts (eqb n slab.live) (leb slab.live 64 && leb (5 * slab.live) (class_capacity slab.class)) test in
    let same : n ≡ slab.live = eqb-true n slab.live parts.0 in
    let few = and_parts (leb slab.live 64) (leb (5 * slab.live) (class_capacity slab.class)) parts.1 in
    let of_class : ℕ → NormalSlab = λ live. record { class = slab.class; live = live } in
    record {
      own = slab.class;
      is = ap (λ live. Some (of_class live)) (sym same);
      few = omega (arith, same, leb-true slab.live 64 few.0);
      sparse = omega (arith, same, leb-true (5 * slab.live) (class_capacity slab.class) few.1);
    }

-- where a candidate stands in the sets
pub record IsPlaced (starts classes unfit : List ℕ) (class granules s n : ℕ) : Type 0 where
  pub inside : s < granules
  pub few : n ≤ 64
  pub is : IsOther starts classes unfit class n s

-- what a set of numbers has of a slab that begins below 4096
unfit_at : (unfit : List ℕ) (class s : ℕ) → s < 4096 → is_unfit unfit class s ≡ has unfit (4096 * class + s)
unfolding is_unfit
unfit_at unfit class s small = ap (λ b. b && has unfit (4096 * class + s)) (lt-ltb s 4096 small)

module _ {normal set : List (Option NormalSlab)} {starts some classes : List ℕ} (unfit : List ℕ) (view : normal ≡ set) (kept : AreKept normal starts some classes) where
  -- what a set that a test tells has of a start and a key
  told_at : (test : Option NormalSlab → ℕ → Bool) (words : List ℕ) → ((k : ℕ) → has words k ≡ test (get_or normal (k % 4096) None) (k / 4096)) → (key s : ℕ) → s < 4096 → has words (4096 * key + s) ≡ test (get_or normal s None) key
  told_at test words told key s small =
      let k = 4096 * key + s in
      let place : k % 4096 ≡ s = omega arith in
      let of_key : k / 4096 ≡ key = omega arith in
      told k ∙ ap (λ t. test (get_or normal t None) (k / 4096)) place ∙ ap (test (get_or normal s None)) of_key

  live_at : (n s : ℕ) → s < 4096 → has starts (4096 * n + s) ≡ has_live (get_or normal s None) n
  live_at = told_at has_live starts kept.starts_are

  class_at : (class s : ℕ) → s < 4096 → has classes (4096 * class + s) ≡ has_class (get_or normal s None) class
  class_at = told_at has_class classes kept.classes_are

  -- a candidate is in the sets
  pub other_of_candidate : (class s n : ℕ) → IsCandidate set unfit class s n → IsPlaced starts classes unfit class (length normal) s n
  other_of_candidate class s n candidate =
      let slab : NormalSlab = record { class = candidate.own; live = n } in
      let listed : get_or normal s None ≡ Some slab = normal_of_list view s ∙ candidate.slab in
      let inside : s < length normal = ⊎_elim
      (λ (within : s < length normal). within)
      (λ (past : length normal ≤ s). absurd (none-some slab (sym (get_or_past normal s None past) ∙ listed)))
      (cases_lt s (length normal)) in
      let small : s < 4096 = omega (arith, inside, kept.few) in
      record {
        inside = inside;
        few = candidate.few;
        is = record {
          is = live_at n s small ∙ ap (λ x. has_live x n) listed
              ∙ and_from (eqb n n) (leb n 64 && leb (5 * n) (class_capacity candidate.own)) (eq-eqb n n refl)
              (and_from (leb n 64) (leb (5 * n) (class_capacity candidate.own)) (le-leb n 64 candidate.few) (le-leb (5 * n) (class_capacity candidate.own) candidate.sparse));
          other = class_at class s small ∙ ap (λ x. has_class x class) listed ∙ ne_eqb class candidate.own candidate.differs;
          sought = sym (unfit_at unfit class s small) ∙ candidate.sought;
        };
      }

  -- and what is in them is a candidate
  pub candidate_of_other : (class s n : ℕ) → s < 4096 → IsOther starts classes unfit class n s → IsCandidate set unfit class s n
  candidate_of_other class s n small other =
      let slab = live_slab (get_or normal s None) n (sym (live_at n s small) ∙ other.is) in
      let apart : eqb class slab.own ≡ false = sym (ap (λ x. has_class x class) slab.is) ∙ sym (class_at class s small) ∙ other.other in
      record {
        own = slab.own;
        slab = sym (normal_of_list view s) ∙ slab.is;
        differs = λ e. both_ways (eqb class slab.own) apart (eq-eqb class slab.own e);
        few = slab.few;
        sparse = slab.sparse;
        sought = unfit_at unfit class s small ∙ other.sought;
      }

  -- a number of live blocks that no slab of another class has
  pub row_more : (class count : ℕ) → ((s n : ℕ) → n < count → ¬ (IsCandidate set unfit class s n)) → HasNoneInRow starts classes unfit class count → (s n : ℕ) → n < count + 1 → ¬ (IsCandidate set unfit class s n)
  row_more class count before none s n less candidate = ⊎_elim
      (λ (earlier : n < count). before s n earlier candidate)
      (λ (now : count ≤ n).
      let equal : n ≡ count = omega arith in
      let placed = other_of_candidate class s n candidate in
      none.none s (omega (arith, placed.inside, kept.few)) (subst (λ (m : ℕ). IsOther starts classes unfit class m s) equal placed.is))
      (cases_lt n count)

  -- the first of one that some slab has
  pub found_in_row : (class count found : ℕ) → ((s n : ℕ) → n < count → ¬ (IsCandidate set unfit class s n)) → IsFirstInRow starts classes unfit class count found →
      IsFirstCandidate set unfit class (record { start = found; live = count })
  found_in_row class count found before first = record {
    is = candidate_of_other class found count first.inside first.is;
    first = λ s n candidate earlier. ⊎_elim
        (λ (fewer : n < count). before s n fewer candidate)
        (λ (level : (n ≡ count) × (s < found)). first.first s level.1 (subst (λ (m : ℕ). IsOther starts classes unfit class m s) level.0 (other_of_candidate class s n candidate).is))
        earlier;
  }

  -- it is a slab of the list
  pub found_inside : (class count found : ℕ) → IsFirstInRow starts classes unfit class count found → found < length normal
  found_inside class count found first = (other_of_candidate class found count (candidate_of_other class found count first.inside first.is)).inside

  -- all numbers of live blocks
  pub none_at_all : (class count : ℕ) → 65 ≤ count → ((s n : ℕ) → n < count → ¬ (IsCandidate set unfit class s n)) → HasNoCandidate set unfit class
  none_at_all class count all before = record { none = λ s n candidate. before s n (omega (arith, candidate.few)) candidate }
