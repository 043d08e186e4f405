-- When a slab is fit.
use Rattle.std.proofs.Common.{◌≡◌, ◌≢◌, ◌↔◌, IsTrue, ◌*◌, ◌<◌, ◌≤◌, ⊎_elim, inl, inr, ℕ, Bool, true, false, true≢false, eqb, length, refl, sym, ap, ◌∙◌, subst, arith}
use Rattle.std.proofs.Math.Nat.{mul-le-mul_right, div-le_of_le-mul}
use Rattle.slab_morph.proofs.Common.{cases_lt, cases_eq, eq-eqb, ne_eqb, cond-true, cond-false, class_size, class_capacity, class_size-rises, class_size-least, class_size-most, normal_kind, morphing_kind, IsState, SlabState, kind_of, class_of, old_of, entries_of, IsValidState, numbers_below, Range, AreApart, slab_block, HoldsBit, HoldsOld, SlabHeader}
use Rattle.std.proofs.lemmas.Nat.{le-div}
use Rattle.slab_morph.specs.SlabHeaders.{alone, HasStateWord}
use Rattle.slab_morph.specs.Overlaps.{IsOverlapRange}
use Rattle.slab_morph.specs.Fitness.{held_count, HoldsOther, IsFitHeader, IsClearOfBits}
use Rattle.slab_morph.proofs.Numbers.{none_below}

module _ (h : SlabHeader) (start own class j first end : ℕ) (range : IsOverlapRange class j own first end) where
  -- none of the blocks that overlap it is held
  pub clear_by_none : j < class_capacity class → ((i : ℕ) → first ≤ i → i < end → h.bit i ≡ false) → IsClearOfBits h start own class j
  clear_by_none within none = record {
    within = within;
    each = λ i below held. ⊎_elim
        (λ (less : i < first). range.outside start i below (inl less))
        (λ (low : first ≤ i). ⊎_elim
        (λ (high : i < end). absurd (true≢false (sym held ∙ none i low high)))
        (λ (past : end ≤ i). range.outside start i below (inr past))
        (cases_lt i end))
        (cases_lt i first);
  }

  -- one of them is
  pub not_clear : (i : ℕ) → first ≤ i → i < end → h.bit i ≡ true → ¬ (IsClearOfBits h start own class j)
  not_clear i low high held clear = range.inside start i low high (clear.each i (omega (arith, high, range.high)) held)

-- the capacity of a class
pub capacity_most : (class : ℕ) → class < 36 → class_capacity class ≤ 3968
capacity_most class below = div-le_of_le-mul (class_size class) (omega (arith, mul-le-mul_right {m = 16} {n = class_size class} 3968 (class_size-least class below)))

pub capacity_some : (class : ℕ) → class < 36 → 0 < class_capacity class
capacity_some class below = omega (arith, le-div 1 63488 (class_size class) (omega (arith, class_size-least class below)) (omega (arith, class_size-most class below)))

-- blocks of two classes have two sizes
pub sizes_differ : (a b : ℕ) → a < 36 → b < 36 → a ≢ b → class_size a ≢ class_size b
sizes_differ a b is_a is_b apart same = ⊎_elim
    (λ (less : a < b). omega (arith, same, class_size-rises a b less is_b))
    (λ (more : b ≤ a). omega (arith, same, class_size-rises b a (omega (arith, more, apart)) is_a))
    (cases_lt a b)

-- how many blocks are held, where no index entry lives
module _ (h : SlabHeader) (start : ℕ) (none : (place : ℕ) → place < h.index_count → h.live place ≡ false) where
  no_old : length (numbers_below h.live h.index_count) ≡ 0
  no_old = none_below h.live h.index_count none

  count_morphing : h.kind ≡ morphing_kind → held_count (alone h) start ≡ 0
  count_morphing is = omega (arith, cond-true (eqb h.kind morphing_kind) 0 (length (numbers_below h.bit (class_capacity h.class))) (eq-eqb h.kind morphing_kind is), no_old)

  count_bits : h.kind ≢ morphing_kind → held_count (alone h) start ≡ length (numbers_below h.bit (class_capacity h.class))
  count_bits apart = omega (arith, cond-false (eqb h.kind morphing_kind) 0 (length (numbers_below h.bit (class_capacity h.class))) (ne_eqb h.kind morphing_kind apart), no_old)

  not_old : {range : Range} → HoldsOld h start range → ⊥
  not_old holds = true≢false (sym holds.live ∙ none holds.place holds.below)

  -- so it is in no transition
  no_transition : ¬ (HoldsOther (alone h) start)
  no_transition moving = ⊎_elim
      (λ (bit : HoldsBit h start moving.range). moving.other (ap (λ (r : Range). r.size) bit.is))
      (λ old. not_old old)
      moving.holds.block

  fit_by : (class number : ℕ) → h.class ≢ class → held_count (alone h) start ≤ 64 → 5 * held_count (alone h) start ≤ class_capacity h.class →
      number < class_capacity class → ((other : Range) → HoldsBit h start other → AreApart (slab_block start class number) other) → IsFitHeader h start class
  fit_by class number differs few sparse within clear = record {
    class = h.class;
    slab = refl;
    no_transition = no_transition;
    differs = λ same. differs (sym same);
    few = few;
    sparse = sparse;
    number = number;
    block = record { within = within; unused = record { each = λ other holds. ⊎_elim (λ bit. clear other bit) (λ old. absurd (not_old old)) holds.block } };
  }

  -- bits are not read
  pub fit_morphing : (class : ℕ) → class < 36 → h.class ≢ class → h.kind ≡ morphing_kind → IsFitHeader h start class
  fit_morphing class below differs is =
      let count = count_morphing is in
      fit_by class 0 differs (omega (arith, count)) (omega (arith, count)) (capacity_some class below) (λ other bit. absurd (bit.read is))

  -- they are
  pub fit_bits : (class j : ℕ) → h.class ≢ class → h.kind ≢ morphing_kind →
      length (numbers_below h.bit (class_capacity h.class)) ≤ 64 → 5 * length (numbers_below h.bit (class_capacity h.class)) ≤ class_capacity h.class →
      IsClearOfBits h start h.class class j → IsFitHeader h start class
  fit_bits class j differs apart few sparse clear =
      let count = count_bits apart in
      fit_by class j differs (omega (arith, count, few)) (omega (arith, count, sparse)) clear.within
      (λ other bit. subst (λ (r : Range). AreApart (slab_block start class j) r) (sym bit.is) (clear.each bit.number bit.below bit.set))

  -- and what follows from it
  module _ (class : ℕ) (apart : h.kind ≢ morphing_kind) (fit : IsFitHeader h start class) where
    same_class : fit.class ≡ h.class
    same_class = cc (fit.slab)

    pub fit_few : length (numbers_below h.bit (class_capacity h.class)) ≤ 64
    fit_few = omega (arith, count_bits apart, fit.few)

    pub fit_sparse : 5 * length (numbers_below h.bit (class_capacity h.class)) ≤ class_capacity h.class
    fit_sparse = subst (λ (n : ℕ). 5 * n ≤ class_capacity h.class) (count_bits apart) (subst (λ (d : ℕ). 5 * held_count (alone h) start ≤ class_capacity d) same_class fit.sparse)

    pub fit_clear : IsClearOfBits h start h.class class fit.number
    fit_clear = record {
      within = fit.block.within;
      each = λ i below held. fit.block.unused.each (slab_block start h.class i) (record { slab = refl; block = inl (record { number = i; below = below; read = apart; set = held; is = refl }) });
    }

-- a slab that is fit has another class
pub fit_differs : (h : SlabHeader) (start class : ℕ) → IsFitHeader h start class → h.class ≢ class
fit_differs h start class fit same = fit.differs (cc (fit.slab, same))

-- and no old block lives in it
pub fit_none : (h : SlabHeader) (start class : ℕ) → IsState h.kind h.class h.old h.index_count → IsFitHeader h start class → (place : ℕ) → place < h.index_count → h.live place ≡ true → ⊥
fit_none h start class valid fit place below live =
    let some : h.kind ≢ normal_kind = λ is. omega (arith, below, (valid.none is).1) in
    fit.no_transition (record {
      range = slab_block start h.old (h.number place);
      holds = record { slab = refl; block = inr (record { place = place; below = below; live = live; is = refl }) };
      other = sizes_differ h.old h.class valid.is_old_class valid.is_class (valid.differ some);
    })

-- the fields of a state word that is a valid one
pub valid_header : (h : SlabHeader) (state : SlabState) → HasStateWord h state → IsValidState state → IsState h.kind h.class h.old h.index_count
valid_header h state is valid =
    subst (λ (k : ℕ). IsState k h.class h.old h.index_count) (sym is.kind)
    (subst (λ (c : ℕ). IsState (kind_of state) c h.old h.index_count) (sym is.class)
    (subst (λ (d : ℕ). IsState (kind_of state) (class_of state) d h.index_count) (sym is.old)
    (subst (λ (n : ℕ). IsState (kind_of state) (class_of state) (old_of state) n) (sym is.entries) valid)))

-- what was read of a header decides it

pub record IsRead (h : SlabHeader) (own entries : ℕ) (told : Bool) : Type 0 where
  pub class : own ≡ h.class
  pub entries_is : entries ≡ h.index_count
  pub told_is : IsTrue told ↔ (h.kind ≢ morphing_kind)
  pub valid : IsState h.kind h.class h.old h.index_count

pub read_by : {h : SlabHeader} {state : SlabState} {own entries : ℕ} {told : Bool} → HasStateWord h state → IsValidState state → own ≡ class_of state → entries ≡ entries_of state →
    IsTrue told ↔ (kind_of state ≢ morphing_kind) → IsRead h own entries told
read_by {h} {state} {own} {entries} {told} is valid class count tells = record {
  class = class ∙ sym is.class;
  entries_is = count ∙ sym is.entries;
  told_is = subst (λ (k : ℕ). IsTrue told ↔ (k ≢ morphing_kind)) (sym is.kind) tells;
  valid = valid_header h state is valid;
}

module _ {h : SlabHeader} {own entries : ℕ} {told : Bool} (read : IsRead h own entries told) (start class : ℕ) (below : class < 36) where
  -- it has the class already, or an old block lives
  pub none_same : own ≡ class → ¬ (IsFitHeader h start class)
  none_same same fit = fit_differs h start class fit (sym read.class ∙ same)

  pub none_old : (place : ℕ) → place < entries → h.live place ≡ true → ¬ (IsFitHeader h start class)
  none_old place less live fit = fit_none h start class read.valid fit place (omega (arith, less, read.entries_is)) live

  module _ (differs : own ≢ class) (none : (place : ℕ) → place < entries → h.live place ≡ false) where
    none_live : (place : ℕ) → place < h.index_count → h.live place ≡ false
    none_live place less = none place (omega (arith, less, read.entries_is))

    apart : h.class ≢ class
    apart same = differs (read.class ∙ same)

    -- its bits are not read
    pub fits_untold : told ≡ false → IsFitHeader h start class
    fits_untold untold = ⊎_elim
        (λ (is : h.kind ≡ morphing_kind). fit_morphing h start none_live class below apart is)
        (λ (is : h.kind ≢ morphing_kind). absurd (true≢false (sym (read.told_is.1 is) ∙ untold)))
        (cases_eq h.kind morphing_kind)

    -- they are
    module _ (tells : told ≡ true) where
      read_bits : h.kind ≢ morphing_kind
      read_bits = read.told_is.0 tells

      pub fits_told : (j : ℕ) → length (numbers_below h.bit (class_capacity own)) ≤ 64 → 5 * length (numbers_below h.bit (class_capacity own)) ≤ class_capacity own → IsClearOfBits h start own class j → IsFitHeader h start class
      fits_told j few sparse clear =
          fit_bits h start none_live class j apart read_bits
          (subst (λ (d : ℕ). length (numbers_below h.bit (class_capacity d)) ≤ 64) read.class few)
          (subst (λ (d : ℕ). 5 * length (numbers_below h.bit (class_capacity d)) ≤ class_capacity d) read.class sparse)
          (subst (λ (d : ℕ). IsClearOfBits h start d class j) read.class clear)

      pub told_counts : IsFitHeader h start class → (length (numbers_below h.bit (class_capacity own)) ≤ 64) × (5 * length (numbers_below h.bit (class_capacity own)) ≤ class_capacity own)
      told_counts fit = (
        subst (λ (d : ℕ). length (numbers_below h.bit (class_capacity d)) ≤ 64) (sym read.class) (fit_few h start none_live class read_bits fit),
        subst (λ (d : ℕ). 5 * length (numbers_below h.bit (class_capacity d)) ≤ class_capacity d) (sym read.class) (fit_sparse h start none_live class read_bits fit),
      )

      pub told_clear : (fit : IsFitHeader h start class) → IsClearOfBits h start own class fit.number
      told_clear fit = subst (λ (d : ℕ). IsClearOfBits h start d class fit.number) (sym read.class) (fit_clear h start none_live class read_bits fit)
