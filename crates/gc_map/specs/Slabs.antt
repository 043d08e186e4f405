-- Which blocks live in the slabs of an arena of the GC variant, by its roots.
use Rattle.std.specs.Prelude.{◌≡◌, ◌≢◌, ◌⊎◌, ℕ, ◌+◌}
use Rattle.image_tables.specs.Tables.{Tables}
use Rattle.heap_check.specs.Sound.{IsInSlab, IsLooseLarge, IsEmptySlab}
use Rattle.image_defects.specs.Count.{IsCount}
use Rattle.gc_check.specs.Heap.{class_field, gc_size}

-- the block of a root lies in the slab at a granule
pub record IsIn (t : Tables) (start root : ℕ) : Type 0 where
  pub some : t.root root ≢ 0
  pub inside : IsInSlab t start (t.root root)

-- and has its class
pub record IsLiveIn (t : Tables) (start root : ℕ) : Type 0 where
  pub lies : IsIn t start root
  pub same : class_field (t.word root) ≡ (t.header start).class + 1

-- or another
pub record IsOldIn (t : Tables) (start root : ℕ) : Type 0 where
  pub lies : IsIn t start root
  pub other : class_field (t.word root) ≢ (t.header start).class + 1

-- the block of a root has so many bytes in the slab at a granule: all of its own where it lies there, and else none
abbrev pub HasBytes : Tables → (start root bytes : ℕ) → Type 0
HasBytes t start root bytes = (IsIn t start root × (bytes ≡ gc_size t.large (t.word root))) ⊎ (¬ (IsIn t start root) × (bytes ≡ 0))

-- some block of another class than the slab's lies in it
pub record IsMixed (t : Tables) (start : ℕ) : Type 0 where
  pub root : ℕ
  pub old : IsOldIn t start root

-- classes

-- the block of a root is of a class, and lies in a slab of the class
pub record IsLiveOf (t : Tables) (class root : ℕ) : Type 0 where
  pub start : ℕ
  pub live : IsLiveIn t start root
  pub is : class_field (t.word root) ≡ class + 1

-- or in a slab of another
pub record IsOldOf (t : Tables) (class root : ℕ) : Type 0 where
  pub start : ℕ
  pub old : IsOldIn t start root
  pub is : class_field (t.word root) ≡ class + 1

-- loose things

-- so many large extents that no root names and slabs in which no root's block lies are among so many granules
pub record IsLooseCount (t : Tables) (granules total : ℕ) : Type 0 where
  pub large : ℕ
  pub empty : ℕ
  pub larges : IsCount (IsLooseLarge t) granules large
  pub empties : IsCount (IsEmptySlab t) granules empty
  pub is : total ≡ large + empty
