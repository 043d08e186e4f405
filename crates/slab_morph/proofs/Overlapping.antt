-- The range of the blocks of one class that overlap a block of another.
use Rattle.std.proofs.Common.{◌+◌, ◌*◌, ◌/◌, ◌<◌, ◌≤◌, min, ⊎_elim, inl, inr, ℕ, refl, arith}
use Rattle.std.proofs.Math.Nat.{div-mul-le_self}
use Rattle.slab_morph.proofs.Common.{cases_lt, class_size, class_capacity, class_size-least, AreApart, slab_block}
use Rattle.slab_morph.specs.Overlaps.{IsOverlapRange}
use Rattle.heap_model.proofs.Ranks.{ceil, before, not_before, behind, not_behind}

-- there is a block between
between : (from width size : ℕ) → 0 < size → 0 < width → from / size < ceil (from + width) size
between from width size some wide = ⊎_elim
    (λ (less : from / size < ceil (from + width) size). less)
    (λ (more : ceil (from + width) size ≤ from / size). absurd (omega (arith, behind (from + width) size (from / size) some more, div-mul-le_self from size)))
    (cases_lt (from / size) (ceil (from + width) size))

module _ (old number class : ℕ) (is_old : old < 36) (is_class : class < 36) where
  wide : 0 < class_size old
  wide = omega (arith, class_size-least old is_old)

  some_size : 0 < class_size class
  some_size = omega (arith, class_size-least class is_class)

  abbrev from : ℕ
  from = number * class_size old

  ends_before : (start i : ℕ) → i < from / class_size class → AreApart (slab_block start old number) (slab_block start class i)
  ends_before start i less = inr (omega (arith, before from (class_size class) i less))

  -- none overlaps
  pub none_overlaps : class_capacity class ≤ from / class_size class → IsOverlapRange old number class (class_capacity class) (class_capacity class)
  none_overlaps past = record {
    high = omega arith;
    some = inr (refl, refl);
    inside = λ start i low high apart. omega (arith, low, high);
    outside = λ start i within either. ends_before start i (omega (arith, within, past));
  }

  -- some overlap
  pub some_overlap : from / class_size class < class_capacity class →
      IsOverlapRange old number class (from / class_size class) (min (ceil (from + class_size old) (class_size class)) (class_capacity class))
  some_overlap inside =
      let size = class_size class in
      let n = from + class_size old in
      record {
        high = omega arith;
        some = inl (omega (arith, inside, between from (class_size old) size some_size wide));
        inside = λ start i low high apart. ⊎_elim
            (λ over. omega (arith, over, not_behind n size i some_size (omega (arith, high))))
            (λ under. omega (arith, under, not_before from size i some_size low))
            apart;
        outside = λ start i within either. ⊎_elim
            (λ less. ends_before start i less)
            (λ past. inl (omega (arith, behind n size i some_size (omega (arith, within, past)))))
            either;
      }
