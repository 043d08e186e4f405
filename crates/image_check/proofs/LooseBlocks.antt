-- Blocks that a slab holds and no root: there is one exactly where an open place entry names it.
use Rattle.std.proofs.Common.{Option, None, Some, ◌≡◌, ◌≢◌, ℕ, zero, suc, ◌*◌, ◌/◌, ◌<◌, ◌≤◌, Bool, true, false, cond, eqb, List, refl, sym, ap, subst, ◌∙◌, arith, inl, inr, ⊎_elim}
use Rattle.std.proofs.lemmas.Bool.{cases_eq, cases_lt, cond-true, cond-false, eq-eqb, ne_eqb}
use Rattle.size_classes.proofs.Spacing.{class_size-least}
use Rattle.pool_layout.specs.Header.{granules_in}
use Rattle.image_tables.specs.declared.entry.WalEntry.{WalEntry}
use Rattle.image_tables.specs.declared.entry.WalEntry.TheVariants.{Place, Move}
use Rattle.image_tables.specs.Tables.{Tables, is_slab, tables_of}
use Rattle.image_tables.proofs.Tables.{slab_table}
use Rattle.heap_model.specs.Machine.{Range, LiesIn}
use Rattle.heap_model.proofs.Slabbing.{LiesIn-block}
use Rattle.heap_check.specs.Heap.{slab_of, is_large, is_old, entry_at, entry_old, size_by, size_at, claim_at, heap, IsClaim, Holds, HoldsBit, HoldsOld}
use Rattle.heap_check.specs.Sound.{AtMostOne, IsValidSlab, IsHeld, AreFewLoose}
use Rattle.heap_check.proofs.Geometry.{granules_at-slab, is_large-parts}
use Rattle.image_defects.specs.Count.{IsCount}
use Rattle.image_defects.specs.declared.found.Loose.{Loose}
use Rattle.image_defects.specs.Loose.{AreLoose}
use Rattle.image_defects.proofs.Counts.{not_two}
use Rattle.image_defects.specs.Blocks.{IsRooted}
use Rattle.image_defects.specs.Summaries.{IsLooseBlock}
use Rattle.image_reading.specs.Extents.{HasExtents}
use Rattle.image_reading.specs.Held.{AreSlabsAt}
use Rattle.defect_search.proofs.BlockSizes.{class_none, old_table-none}
use Rattle.image_check.specs.Faults.{HasGoodBlocks}
use Rattle.image_check.specs.Totals.{HasLooseEntry}

-- counts of none and of one

pub count_none : (P : ℕ → Type 0) (n : ℕ) → ((k : ℕ) → k < n → ¬ (P k)) → IsCount P n 0
count_none P zero none = refl
count_none P (suc n) none = inr (none n (omega arith), count_none P n (λ k below. none k (omega arith)))

pub count_one : (P : ℕ → Type 0) (n k : ℕ) → k < n → P k → ((j : ℕ) → P j → j ≡ k) → IsCount P n 1
count_one P zero k below here only = absurd (omega arith)
count_one P (suc n) k below here only = ⊎_elim
    (λ (same : k ≡ n). inl (subst P same here, (0, refl, count_none P n (λ j less other. omega (arith, only j other, same)))))
    (λ (other : k ≢ n). inr ((λ last. other (sym (only n last))), count_one P n k (omega arith) here only))
    (cases_eq k n)

-- what a slab holds lies in the arena and has bytes

lies_of : (words : List ℕ) (start : ℕ) (range : Range) → AreSlabsAt words → Holds (tables_of words) start range → LiesIn start range × (0 < range.size)
lies_of words start range slabs holds =
    let t = tables_of words in
    let is : IsValidSlab (t.header start) = (slabs.good start (sym (slab_table words start) ∙ holds.slab)).slab in
    ⊎_elim
    (λ (b : HoldsBit (t.header start) start range). (LiesIn-block start (t.header start).class range (record { number = b.number; within = b.below; is = b.is }), omega (arith, ap (λ (r : Range). r.size) b.is, class_size-least (t.header start).class is.state.is_class)))
    (λ (o : HoldsOld (t.header start) start range). (LiesIn-block start (t.header start).old range (record { number = (t.header start).number o.place; within = is.small o.place o.below; is = o.is }), omega (arith, ap (λ (r : Range). r.size) o.is, class_size-least (t.header start).old is.state.is_old_class)))
    holds.block

below_end : (words : List ℕ) (start : ℕ) (range : Range) → AreSlabsAt words → HasExtents words → Holds (tables_of words) start range → range.at < 16384 * granules_in words
below_end words start range slabs extents holds =
    let lies = lies_of words start range slabs holds in
    let four = granules_at-slab (tables_of words) start holds.slab in
    omega (arith, lies.0.high, lies.1, four, extents.inside start (omega (arith, four)))

-- a root's block has bytes

size_some : (words : List ℕ) (root at : ℕ) → AreSlabsAt words → 0 < size_at (tables_of words) root at
size_some words root at slabs = by (is_large t.large at) refl
  where
    t : Tables
    t = tables_of words

    class_few : (start : ℕ) → (t.header start).class < 36
    class_few start = cases (is_slab words start) refl
      where
        cases : (b : Bool) → is_slab words start ≡ b → (t.header start).class < 36
        cases true is = (slabs.good start is).slab.state.is_class
        cases false none = omega (arith, class_none words start none)

    old_few : (start : ℕ) → (t.header start).old < 36
    old_few start = cases (is_slab words start) refl
      where
        cases : (b : Bool) → is_slab words start ≡ b → (t.header start).old < 36
        cases true is = (slabs.good start is).slab.state.is_old_class
        cases false none = omega (arith, old_table-none words start none)

    some_by : (of_old : Bool) → 0 < size_by t at of_old
    some_by true = omega (arith, class_size-least ((t.header (slab_of t.slab (at / 16384))).old) (old_few (slab_of t.slab (at / 16384))))
    some_by false = omega (arith, class_size-least ((t.header (slab_of t.slab (at / 16384))).class) (class_few (slab_of t.slab (at / 16384))))

    some_if : (b : Bool) (x y : Bool) → 0 < cond b (size_by t at x) (size_by t at y)
    some_if true x y = some_by x
    some_if false x y = some_by y

    by : (large : Bool) → is_large t.large at ≡ large → 0 < size_at t root at
    by true is = subst (λ n. 0 < n) (sym (cond-true (is_large t.large at) _ _ is)) (omega (arith, (is_large-parts t.large at is).1))
    by false none = subst (λ n. 0 < n) (sym (cond-false (is_large t.large at) _ _ none)) (some_if _ (entry_old t.open_entry) (is_old (t.header (slab_of t.slab (at / 16384))) (slab_of t.slab (at / 16384)) at))

-- the heap and claims

heap_none : (t : Tables) (root : ℕ) → t.root root ≡ 0 → heap t root ≡ None
heap_none t root none = cond-true (eqb (t.root root) 0) _ _ (eq-eqb (t.root root) 0 none)

pub heap_some : (t : Tables) (root : ℕ) (range : Range) → t.root root ≢ 0 → IsClaim t root range → heap t root ≡ Some range
heap_some t root range some claim =
    let here : claim_at t root ≡ t.root root = cond-false (eqb (t.root root) 0) _ _ (ne_eqb (t.root root) 0 some) in
    let at : t.root root ≡ range.at = sym here ∙ claim.place in
    let size : size_at t root (t.root root) ≡ range.size = ap (size_at t root) (sym here) ∙ claim.wide in
    cond-false (eqb (t.root root) 0) _ _ (ne_eqb (t.root root) 0 some)
    ∙ ap (λ n. let r : Range = record { at = n; size = size_at t root (t.root root) } in Some r) at ∙ ap (λ n. let r : Range = record { at = range.at; size = n } in Some r) size

some_not : (r : Range) → None ≡ Some r → ⊥
some_not r is = cc

range_is : (a b : Range) → Some a ≡ Some b → a ≡ b
range_is a b is = cc

claim_of_heap : (t : Tables) (root : ℕ) (range : Range) → heap t root ≡ Some range → range.at ≢ 0 → IsClaim t root range
claim_of_heap t root range is some = ⊎_elim
    (λ (none : t.root root ≡ 0). absurd (some_not range (sym (heap_none t root none) ∙ is)))
    (λ (held : t.root root ≢ 0).
    let here : claim_at t root ≡ t.root root = cond-false (eqb (t.root root) 0) _ _ (ne_eqb (t.root root) 0 held) in
    let named : heap t root ≡ Some (record { at = t.root root; size = size_at t root (t.root root) }) = cond-false (eqb (t.root root) 0) _ _ (ne_eqb (t.root root) 0 held) in
    let same = range_is (record { at = t.root root; size = size_at t root (t.root root) }) range (sym named ∙ is) in
    record { some = some; place = here ∙ ap (λ (r : Range). r.at) same; wide = ap (size_at t root) here ∙ ap (λ (r : Range). r.size) same })
    (cases_eq (t.root root) 0)

-- the address of an open place entry, 0 where there is none
abbrev pub open_address : Option WalEntry → ℕ
open_address None = 0
open_address (Some (Place root at old place)) = at
open_address (Some (Move from to)) = 0

named_loose : (t : Tables) (root at : ℕ) (e : Option WalEntry) → entry_at e root ≡ at → at ≢ 0 → t.root root ≡ 0 → IsHeld t at → HasLooseEntry t e × (open_address e ≡ at)
named_loose t root at None named some none held = absurd (some (sym named))
named_loose t root at (Some (Move from to)) named some none held = absurd (some (sym named))
named_loose t root at (Some (Place r a old place)) named some none held = ⊎_elim
    (λ (same : root ≡ r).
    let here : a ≡ at = sym (cond-true (eqb root r) a 0 (eq-eqb root r same)) ∙ named in
    (record { none = subst (λ q. t.root q ≡ 0) same none; held = subst (IsHeld t) (sym here) held }, here))
    (λ (other : root ≢ r). absurd (some (sym named ∙ cond-false (eqb root r) a 0 (ne_eqb root r other))))
    (cases_eq root r)

-- a loose block is the open entry's
pub loose_named : (words : List ℕ) (at : ℕ) → HasGoodBlocks words → AreSlabsAt words → IsLooseBlock (tables_of words) at → HasLooseEntry (tables_of words) (tables_of words).open_entry × (open_address (tables_of words).open_entry ≡ at)
loose_named words at good slabs loose =
    let t = tables_of words in
    let rooted : IsRooted t loose.range = good.rooted loose.start loose.range loose.holds in
    let claim = rooted.claim in
    ⊎_elim
    (λ (none : t.root rooted.root ≡ 0).
    let named : entry_at t.open_entry rooted.root ≡ at = sym (cond-true (eqb (t.root rooted.root) 0) _ _ (eq-eqb (t.root rooted.root) 0 none)) ∙ claim.place ∙ loose.here in
    let held : IsHeld t at = record { start = loose.start; range = loose.range; holds = loose.holds; here = loose.here } in
    named_loose t rooted.root at t.open_entry named (λ zero. claim.some (loose.here ∙ zero)) none held)
    (λ (some : t.root rooted.root ≢ 0). absurd (loose.none rooted.root (heap_some t rooted.root loose.range some claim)))
    (cases_eq (t.root rooted.root) 0)

entry_claim : (words : List ℕ) (root at : ℕ) (old : Bool) (place : ℕ) → AreSlabsAt words → (tables_of words).open_entry ≡ Some (Place root at old place) → (tables_of words).root root ≡ 0 → at ≢ 0 → IsClaim (tables_of words) root (record { at = at; size = size_at (tables_of words) root at })
entry_claim words root at old place slabs is none some =
    let t = tables_of words in
    let here : claim_at t root ≡ at = cond-true (eqb (t.root root) 0) _ _ (eq-eqb (t.root root) 0 none) ∙ ap (λ e. entry_at e root) is ∙ cond-true (eqb root root) at 0 (eq-eqb root root refl) in
    record { some = some; place = here; wide = ap (size_at t root) here }

loose_by : (words : List ℕ) (e : Option WalEntry) → HasGoodBlocks words → AreSlabsAt words → (tables_of words).open_entry ≡ e → HasLooseEntry (tables_of words) e → IsLooseBlock (tables_of words) (open_address e)
loose_by words None good slabs is loose = absurd loose
loose_by words (Some (Move from to)) good slabs is loose = absurd loose
loose_by words (Some (Place root at old place)) good slabs is loose =
    let t = tables_of words in
    let held = loose.held in
    let lies = lies_of words held.start held.range slabs held.holds in
    let some : held.range.at ≢ 0 = λ zero. omega (arith, zero, block_late words held.start held.range held.holds) in
    record {
      start = held.start;
      range = held.range;
      holds = held.holds;
      here = held.here;
      none = λ other named. ⊎_elim
          (λ (same : other ≡ root). some_not held.range (sym (heap_none t other (subst (λ r. t.root r ≡ 0) (sym same) loose.none)) ∙ named))
          (λ (differ : other ≢ root). good.apart.none other (record {
            other = root;
            shared = record {
              differ = differ;
              range = held.range;
              another = record { at = at; size = size_at t root at };
              claim = claim_of_heap t other held.range named some;
              second = entry_claim words root at old place slabs is loose.none (λ zero. some (held.here ∙ zero));
              overlap = record { begins = omega (arith, held.here, lies.1); ends = omega (arith, held.here, size_some words root at slabs) };
            };
          }))
          (cases_eq other root);
    }
  where
    block_late : (words : List ℕ) (start : ℕ) (range : Range) → Holds (tables_of words) start range → 0 < range.at
    block_late words start range holds = ⊎_elim
        (λ (b : HoldsBit ((tables_of words).header start) start range). omega (arith, ap (λ (r : Range). r.at) b.is))
        (λ (o : HoldsOld ((tables_of words).header start) start range). omega (arith, ap (λ (r : Range). r.at) o.is))
        holds.block

pub blocks_one : (words : List ℕ) (entry : Option WalEntry) → HasGoodBlocks words → AreSlabsAt words → HasExtents words → (tables_of words).open_entry ≡ entry → HasLooseEntry (tables_of words) entry → IsCount (IsLooseBlock (tables_of words)) (16384 * granules_in words) 1
blocks_one words entry good slabs extents is loose =
    let block : IsLooseBlock (tables_of words) (open_address entry) = loose_by words entry good slabs is loose in
    let below = below_end words block.start block.range slabs extents block.holds in
    count_one (IsLooseBlock (tables_of words)) (16384 * granules_in words) (open_address entry) (omega (arith, below, block.here)) block
    (λ at other. sym (loose_named words at good slabs other).1 ∙ ap open_address is)

pub blocks_none : (words : List ℕ) (entry : Option WalEntry) → HasGoodBlocks words → AreSlabsAt words → (tables_of words).open_entry ≡ entry → ¬ (HasLooseEntry (tables_of words) entry) → IsCount (IsLooseBlock (tables_of words)) (16384 * granules_in words) 0
blocks_none words entry good slabs is none =
    count_none (IsLooseBlock (tables_of words)) (16384 * granules_in words) (λ at below loose. none (subst (HasLooseEntry (tables_of words)) is (loose_named words at good slabs loose).0))

-- of each kind that is counted there is one at most
pub few_each : (t : Tables) (n : ℕ) (loose : Loose) → AreLoose t n loose → AreFewLoose t → (loose.large ≤ 1) × (loose.empty ≤ 1) × (loose.morphing ≤ 1) × (loose.done ≤ 1)
few_each t n loose are few =
    let at_most : (P : ℕ → Type 0) (c : ℕ) → IsCount P n c → AtMostOne P → c ≤ 1 = λ P c count one. ⊎_elim (λ (many : 1 < c). absurd (not_two P n c count many one)) (λ (ok : c ≤ 1). ok) (cases_lt 1 c) in
    (at_most _ loose.large are.large few.large, at_most _ loose.empty are.empty few.empty, at_most _ loose.morphing are.morphing few.morphing, at_most _ loose.done are.done few.done)
