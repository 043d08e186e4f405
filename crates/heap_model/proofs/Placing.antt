-- A machine stays free of overlaps where a block is placed that overlaps none and lies where its size says, and where a
-- block passes to another root.
use Rattle.std.proofs.Common.{◌≡◌, ◌≢◌, ◌⊎◌, ℕ, ◌+◌, ◌*◌, ◌<◌, ◌≤◌, sym, ◌∙◌, arith, subst, inl, inr, ⊎_elim, Some, None}
use Rattle.std.proofs.lemmas.Bool.{cases_lt}
use Rattle.heap_model.specs.Machine.{Bounds, Range, Machine, with_key, AreApart, Meets, IsLarge, LiesIn, IsUnused, IsFreeGranule, IsWholeGranules, IsOverlapFree}
use Rattle.heap_model.specs.Runs.{IsFreeRow}
use Rattle.heap_model.specs.Step.{forgotten, with_moved, with_value}
use Rattle.heap_model.proofs.Maps.{with_key-cases}

-- apart is apart the other way round
pub apart_back : (a b : Range) → AreApart a b → AreApart b a
apart_back a b apart = ⊎_elim (λ before. inr before) (λ behind. inl behind) apart

-- a range lies where its size says
pub record IsProper (b : Bounds) (m : Machine) (range : Range) : Type 0 where
  pub sized : 0 < range.size
  pub small : ¬ (IsLarge range) → (s : ℕ) × (c : ℕ) × (m.slab s ≡ Some c) × LiesIn s range
  pub large : IsLarge range → IsWholeGranules b range
  pub clear : (s c k : ℕ) → IsLarge range → m.slab s ≡ Some c → s ≤ k → k < s + 4 → ¬ (Meets range k)

-- equal values of an option
some_same : {X : Type 0} (x y : X) → Some x ≡ Some y → x ≡ y
some_same x y same = cc

-- a root is given a block, and the slabs stay
abbrev pub with_range : Machine → ℕ → Range → Machine
with_range m root range = record { block = with_key m.block root (Some range); slab = m.slab; value = forgotten m.value root }

pub IsOverlapFree-with : (b : Bounds) (m : Machine) (root : ℕ) (range : Range) → IsOverlapFree b m → root < b.roots → IsUnused m range → IsProper b m range → IsOverlapFree b (with_range m root range)
IsOverlapFree-with b m root range was below unused proper = record {
  apart = λ r o x y differ first second. ⊎_elim
      (λ here. ⊎_elim
      (λ also. absurd (differ (here.0 ∙ sym also.0)))
      (λ there. subst (λ (z : Range). AreApart z y) (some_same range x here.1) (unused.each o y there.1))
      (with_key-cases m.block root o (Some range) (Some y) second))
      (λ there. ⊎_elim
      (λ here. subst (λ (z : Range). AreApart x z) (some_same range y here.1) (apart_back range x (unused.each r x there.1)))
      (λ too. was.apart r o x y differ there.1 too.1)
      (with_key-cases m.block root o (Some range) (Some y) second))
      (with_key-cases m.block root r (Some range) (Some x) first);
  rooted = λ r x named. ⊎_elim
      (λ here. omega (arith, here.0))
      (λ there. was.rooted r x there.1)
      (with_key-cases m.block root r (Some range) (Some x) named);
  sized = λ r x named. ⊎_elim
      (λ here. subst (λ (z : Range). 0 < z.size) (some_same range x here.1) proper.sized)
      (λ there. was.sized r x there.1)
      (with_key-cases m.block root r (Some range) (Some x) named);
  slabs = was.slabs;
  slabs_apart = was.slabs_apart;
  small = λ r x named. ⊎_elim
      (λ here. subst (λ (z : Range). ¬ (IsLarge z) → (s : ℕ) × (c : ℕ) × (m.slab s ≡ Some c) × LiesIn s z) (some_same range x here.1) proper.small)
      (λ there. was.small r x there.1)
      (with_key-cases m.block root r (Some range) (Some x) named);
  large = λ r x named. ⊎_elim
      (λ here. subst (λ (z : Range). IsLarge z → IsWholeGranules b z) (some_same range x here.1) proper.large)
      (λ there. was.large r x there.1)
      (with_key-cases m.block root r (Some range) (Some x) named);
  clear = λ r x s c k named. ⊎_elim
      (λ here. subst (λ (z : Range). IsLarge z → m.slab s ≡ Some c → s ≤ k → k < s + 4 → ¬ (Meets z k)) (some_same range x here.1) (proper.clear s c k))
      (λ there. was.clear r x s c k there.1)
      (with_key-cases m.block root r (Some range) (Some x) named);
}

-- no word is part of an overlap
pub IsOverlapFree-value : (b : Bounds) (m : Machine) (root index word : ℕ) → IsOverlapFree b m → IsOverlapFree b (with_value m root index word)
IsOverlapFree-value b m root index word was = record {
  apart = was.apart;
  rooted = was.rooted;
  sized = was.sized;
  slabs = was.slabs;
  slabs_apart = was.slabs_apart;
  small = was.small;
  large = was.large;
  clear = was.clear;
}

-- what is named after a root's block has passed to another: the block that it had, or what was there
pub moved_named : (m : Machine) (from to r : ℕ) (range x : Range) → m.block from ≡ Some range → with_key (with_key m.block from None) to (Some range) r ≡ Some x →
    ((r ≡ to) × (m.block from ≡ Some x)) ⊎ ((r ≢ from) × (m.block r ≡ Some x))
moved_named m from to r range x was named = ⊎_elim
    (λ here. inl (here.0, was ∙ here.1))
    (λ there. ⊎_elim
    (λ gone. absurd (let none = gone.1 in cc))
    (λ stays. inr stays)
    (with_key-cases m.block from r None (Some x) there.1))
    (with_key-cases (with_key m.block from None) to r (Some range) (Some x) named)

-- a block passes to another root
pub IsOverlapFree-moved : (b : Bounds) (m : Machine) (from to : ℕ) (range : Range) → IsOverlapFree b m → to < b.roots → m.block from ≡ Some range → IsOverlapFree b (with_moved m from to range)
IsOverlapFree-moved b m from to range was below held =
    let origin = λ (r : ℕ) (x : Range) (named : with_key (with_key m.block from None) to (Some range) r ≡ Some x). moved_named m from to r range x held named in
    record {
      apart = λ r o x y differ first second. ⊎_elim
          (λ here. ⊎_elim
          (λ also. absurd (differ (here.0 ∙ sym also.0)))
          (λ there. was.apart from o x y (λ same. there.0 (sym same)) here.1 there.1)
          (origin o y second))
          (λ there. ⊎_elim
          (λ here. was.apart r from x y there.0 there.1 here.1)
          (λ too. was.apart r o x y differ there.1 too.1)
          (origin o y second))
          (origin r x first);
      rooted = λ r x named. ⊎_elim (λ here. omega (arith, here.0)) (λ there. was.rooted r x there.1) (origin r x named);
      sized = λ r x named. ⊎_elim (λ here. was.sized from x here.1) (λ there. was.sized r x there.1) (origin r x named);
      slabs = was.slabs;
      slabs_apart = was.slabs_apart;
      small = λ r x named. ⊎_elim (λ here. was.small from x here.1) (λ there. was.small r x there.1) (origin r x named);
      large = λ r x named. ⊎_elim (λ here. was.large from x here.1) (λ there. was.large r x there.1) (origin r x named);
      clear = λ r x s c k named. ⊎_elim (λ here. was.clear from x s c k here.1) (λ there. was.clear r x s c k there.1) (origin r x named);
    }

-- two rows of granules share none, or one granule is in both
pub rows_apart : (a m b n : ℕ) → 0 < m → 0 < n → ((k : ℕ) → a ≤ k → k < a + m → b ≤ k → k < b + n → ⊥) → (a + m ≤ b) ⊎ (b + n ≤ a)
rows_apart a m b n some more none = ⊎_elim
    (λ (low : b < a + m). ⊎_elim
    (λ (high : a < b + n). absurd (⊎_elim
    (λ (first : a < b). none b (omega arith) low (omega arith) (omega arith))
    (λ (second : b ≤ a). none a (omega arith) (omega arith) second high)
    (cases_lt a b)))
    (λ (behind : b + n ≤ a). inr behind)
    (cases_lt a (b + n)))
    (λ (before : a + m ≤ b). inl before)
    (cases_lt b (a + m))

-- a range within free granules overlaps no live block
pub IsUnused-free : (b : Bounds) (m : Machine) (start n : ℕ) (range : Range) → IsOverlapFree b m → 0 < n → IsFreeRow (IsFreeGranule b m) start n →
    16384 * start ≤ range.at → range.at + range.size ≤ 16384 * (start + n) → IsUnused m range
IsUnused-free b m start n range was some row low high = record {
  each = λ root other named. ⊎_elim
      (λ (large : IsLarge other).
      let whole = was.large root other named large in
      ⊎_elim
      (λ before. inl (omega (arith, before, whole.at, high)))
      (λ behind. inr (omega (arith, behind, whole.at, whole.size, low)))
      (rows_apart start n whole.start whole.count some (omega (arith, large, whole.size))
      (λ k from to first last. (row.each k from to).no_block root other named large (record { begins = omega (arith, first, whole.at); ends = omega (arith, last, whole.at, whole.size) }))))
      (λ (little : other.size ≤ 16384).
      let slab = was.small root other named (λ large. omega (arith, large, little)) in
      ⊎_elim
      (λ before. inl (omega (arith, before, slab.3.low, high)))
      (λ behind. inr (omega (arith, behind, slab.3.high, low)))
      (rows_apart start n slab.0 4 some (omega arith)
      (λ k from to first last. ⊎_elim (λ left. omega (arith, left, first)) (λ right. omega (arith, right, last)) ((row.each k from to).no_slab slab.0 slab.1 slab.2))))
      (cases_lt 16384 other.size);
}
