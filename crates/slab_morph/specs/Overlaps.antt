-- Which blocks of one class overlap a block of another, where a slab has blocks of both.
use Rattle.std.specs.Prelude.{◌≡◌, ◌⊎◌, ℕ, ◌<◌, ◌≤◌, true}
use Rattle.size_classes.specs.Classes.{class_capacity}
use Rattle.heap_model.specs.Machine.{AreApart, slab_block}
use Rattle.image_tables.specs.Tables.{SlabHeader}

-- The blocks of a class from `first` on and before `end` are those that overlap block `number` of the class `old`: at
-- least one, or both ends are the capacity.
pub record IsOverlapRange (old number class first end : ℕ) : Type 0 where
  pub high : end ≤ class_capacity class
  pub some : (first < end) ⊎ ((first ≡ class_capacity class) × (end ≡ class_capacity class))
  pub inside : (start i : ℕ) → first ≤ i → i < end → ¬ (AreApart (slab_block start old number) (slab_block start class i))
  pub outside : (start i : ℕ) → i < class_capacity class → (i < first) ⊎ (end ≤ i) → AreApart (slab_block start old number) (slab_block start class i)

-- The blocks of a class from `first` on and before `end` are those that overlap the old block at a place of a slab's index
-- table, where it lives: none where it does not.
pub record IsCoveredRange (h : SlabHeader) (start old class place first end : ℕ) : Type 0 where
  pub high : end ≤ class_capacity class
  pub inside : (i : ℕ) → first ≤ i → i < end → (h.live place ≡ true) × ¬ (AreApart (slab_block start old (h.number place)) (slab_block start class i))
  pub outside : (i : ℕ) → i < class_capacity class → (i < first) ⊎ (end ≤ i) → h.live place ≡ true → AreApart (slab_block start old (h.number place)) (slab_block start class i)
