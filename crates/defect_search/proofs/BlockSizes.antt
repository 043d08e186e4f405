-- Sizes of blocks by their addresses.
use Rattle.std.proofs.Common.{◌≡◌, ◌≢◌, ◌↔◌, ◌&&◌, ◌==◌, ℕ, ◌-◌, ◌*◌, ◌/◌, ◌≤◌, Bool, true, false, cond, ltb, List, refl, sym, ap, subst, ◌∙◌, arith, IsTrue}
use Rattle.defect_search.proofs.Common.{false≢true, cond-true, cond-false, eq-eqb, eqb-true, ne_eqb, lt-ltb, and_parts, and_from, false_from_ne_true, class_size, Tables, is_slab, state_field, tables_of, slab_table, slab_fields, slab_block}
use Rattle.heap_model.proofs.Below.{any_below-true, any_below-some}
use Rattle.heap_check.specs.Heap.{slab_of, is_old_of, is_old, is_large, entry_at, entry_old, size_by, size_at}
use Rattle.image_reading.specs.Held.{HasOldAt, AreSlabsAt}

-- which slab has a granule

pub slab_of-first : (slab : ℕ → Bool) (k : ℕ) → slab k ≡ true → slab_of slab k ≡ k
unfolding slab_of
slab_of-first slab k is = cond-true (slab k) k _ is

pub slab_of-second : (slab : ℕ → Bool) (k : ℕ) → slab k ≡ false → slab (k - 1) ≡ true → slab_of slab k ≡ k - 1
unfolding slab_of
slab_of-second slab k none is = cond-false (slab k) k _ none ∙ cond-true (slab (k - 1)) (k - 1) _ is

pub slab_of-third : (slab : ℕ → Bool) (k : ℕ) → slab k ≡ false → slab (k - 1) ≡ false → slab (k - 2) ≡ true → slab_of slab k ≡ k - 2
unfolding slab_of
slab_of-third slab k none nor is = cond-false (slab k) k _ none ∙ cond-false (slab (k - 1)) (k - 1) _ nor ∙ cond-true (slab (k - 2)) (k - 2) _ is

pub slab_of-last : (slab : ℕ → Bool) (k : ℕ) → slab k ≡ false → slab (k - 1) ≡ false → slab (k - 2) ≡ false → slab_of slab k ≡ k - 3
unfolding slab_of
slab_of-last slab k none nor neither = cond-false (slab k) k _ none ∙ cond-false (slab (k - 1)) (k - 1) _ nor ∙ cond-false (slab (k - 2)) (k - 2) _ neither

-- what was read of a granule is in the tables
pub slab_read : (words : List ℕ) {k at : ℕ} {read is : Bool} → at ≡ k → read ≡ is_slab words at → read ≡ is → (tables_of words).slab k ≡ is
slab_read words {k} {at} same here is = ap (tables_of words).slab (sym same) ∙ slab_table words at ∙ sym here ∙ is

-- what the tables have where no slab starts

field_none : (words : List ℕ) (start bits : ℕ) → is_slab words start ≡ false → state_field words start bits ≡ 0
field_none words start bits none = cond-false (is_slab words start) _ 0 none

pub class_none : (words : List ℕ) (start : ℕ) → is_slab words start ≡ false → ((tables_of words).header start).class ≡ 0
class_none words start none = (slab_fields words start).class ∙ field_none words start 8 none

pub old_table-none : (words : List ℕ) (start : ℕ) → is_slab words start ≡ false → ((tables_of words).header start).old ≡ 0
old_table-none words start none = (slab_fields words start).old ∙ field_none words start 16 none

pub index_count_none : (words : List ℕ) (start : ℕ) → is_slab words start ≡ false → ((tables_of words).header start).index_count ≡ 0
index_count_none words start none = (slab_fields words start).index_count ∙ field_none words start 24 none

-- no slab begins that far
pub slab_none : (words : List ℕ) (start : ℕ) → AreSlabsAt words → 65000 ≤ start → is_slab words start ≡ false
slab_none words start slabs far = false_from_ne_true (is_slab words start) (λ is. omega (arith, far, (slabs.at start is).small))

pub slab_of-far : (words : List ℕ) (k : ℕ) → AreSlabsAt words → 65536 ≤ k → is_slab words (slab_of (tables_of words).slab k) ≡ false
slab_of-far words k slabs far =
    let none : (j : ℕ) → 65000 ≤ j → (tables_of words).slab j ≡ false = λ j past. slab_table words j ∙ slab_none words j slabs past in
    let last : slab_of (tables_of words).slab k ≡ k - 3 = slab_of-last (tables_of words).slab k (none k (omega arith)) (none (k - 1) (omega arith)) (none (k - 2) (omega arith)) in
    subst (λ s. is_slab words s ≡ false) (sym last) (slab_none words (k - 3) slabs (omega arith))

pub size_by-class : (t : Tables) (at class : ℕ) (of_old : Bool) → cond of_old ((t.header (slab_of t.slab (at / 16384))).old) ((t.header (slab_of t.slab (at / 16384))).class) ≡ class → size_by t at of_old ≡ class_size class
size_by-class t at class of_old is = ap class_size is

pub size_by-far : (words : List ℕ) (at : ℕ) (of_old : Bool) → AreSlabsAt words → 65536 ≤ at / 16384 → size_by (tables_of words) at of_old ≡ class_size 0
size_by-far words at of_old slabs far =
    let t = tables_of words in
    let start = slab_of t.slab (at / 16384) in
    let none = slab_of-far words (at / 16384) slabs far in
    let by : (b : Bool) → cond b (t.header start).old (t.header start).class ≡ 0 = λ b. elim b as (λ b. cond b (t.header start).old (t.header start).class ≡ 0) [
      | true ↦ old_table-none words start none
      | false ↦ class_none words start none
    ] in
    size_by-class t at 0 of_old (by of_old)

-- old blocks

pub old_there : (t : Tables) (start at : ℕ) → HasOldAt t start at ↔ (is_old (t.header start) start at ≡ true)
unfolding is_old_of
old_there t start at =
    let test : ℕ → Bool = λ place. (t.header start).live place && ((slab_block start (t.header start).old ((t.header start).number place)).at == at) in (
      λ has. any_below-true test (t.header start).index_count has.place has.below (and_from _ _ has.live (eq-eqb _ _ (sym has.is))),
      λ is.
          let found = any_below-some test (t.header start).index_count is in
          let parts = and_parts ((t.header start).live found.0) ((slab_block start (t.header start).old ((t.header start).number found.0)).at == at) found.2 in
          record { place = found.0; below = found.1; live = parts.0; is = sym (eqb-true (slab_block start (t.header start).old ((t.header start).number found.0)).at at parts.1) },
    )

pub old_by : (t : Tables) (start at : ℕ) (has : Bool) → (IsTrue has ↔ HasOldAt t start at) → has ≡ is_old (t.header start) start at
old_by t start at true says = sym ((old_there t start at).0 (says.0 refl))
old_by t start at false says = sym (false_from_ne_true (is_old (t.header start) start at) (λ is. false≢true (says.1 ((old_there t start at).1 is))))

pub no_old : (t : Tables) (start at : ℕ) → (t.header start).index_count ≡ 0 → false ≡ is_old (t.header start) start at
no_old t start at none = sym (false_from_ne_true (is_old (t.header start) start at) (λ is. let has = (old_there t start at).1 is in omega (arith, has.below, none)))

-- the size of a root's block

pub size_at-large : (t : Tables) (root at : ℕ) → is_large t.large at ≡ true → size_at t root at ≡ 16384 * t.large (at / 16384)
size_at-large t root at large = cond-true (is_large t.large at) _ _ large

pub size_at-entry : (t : Tables) (root at : ℕ) → is_large t.large at ≡ false → entry_at t.open_entry root ≡ at → at ≢ 0 → size_at t root at ≡ size_by t at (entry_old t.open_entry)
size_at-entry t root at none named some =
    cond-false (is_large t.large at) _ _ none ∙ cond-true ((entry_at t.open_entry root == at) && ltb 0 at) _ _ (and_from _ _ (eq-eqb (entry_at t.open_entry root) at named) (lt-ltb 0 at (omega (arith, some))))

pub size_at-other : (t : Tables) (root at : ℕ) → is_large t.large at ≡ false → entry_at t.open_entry root ≢ at → size_at t root at ≡ size_by t at (is_old (t.header (slab_of t.slab (at / 16384))) (slab_of t.slab (at / 16384)) at)
size_at-other t root at none other =
    cond-false (is_large t.large at) _ _ none ∙ ap (λ b. cond (b && ltb 0 at) (size_by t at (entry_old t.open_entry)) (size_by t at (is_old (t.header (slab_of t.slab (at / 16384))) (slab_of t.slab (at / 16384)) at))) (ne_eqb (entry_at t.open_entry root) at other)
