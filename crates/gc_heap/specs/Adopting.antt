-- What the indexes of an arena have read of an image so far, while an arena is made over it.
use Rattle.std.specs.Prelude.{◌≡◌, ℕ, ◌+◌, ◌<◌, ◌≤◌, true, List, Some}
use Rattle.image_tables.specs.Extents.{extent_at}
use Rattle.image_tables.specs.Tables.{is_slab}
use Rattle.book_log.specs.declared.entry.LogEntry.{LogEntry}
use Rattle.book_log.specs.Table.{IsNextLive}
use Rattle.heap_model.specs.Machine.{IsLarge}
use Rattle.heap_indexes.specs.Indexes.{Indexes}
use Rattle.heap_indexes.specs.Adopting.{AreAdopted}
use Rattle.heap_check.specs.Image.{bounds_of}
use Rattle.gc_check.specs.State.{gc_blocks}
use Rattle.gc_heap.specs.Arena.{state_in}

-- the first roots of the image are counted, and its extents below a granule taken over
abbrev pub AreReadTo : List ℕ → (roots from : ℕ) → Indexes → Type 0
AreReadTo words roots from x = AreAdopted (bounds_of words) (state_in words) roots from x

-- all roots are counted, and the entry says the next live extent: those that begin below it are taken over
pub record IsNextExtent (words : List ℕ) (x : Indexes) (next : LogEntry) : Type 0 where
  pub from : ℕ
  pub live : IsNextLive (extent_at words) from next
  pub read : AreReadTo words (bounds_of words).roots from x

-- slabs

-- the slab at a start has a granule
pub record IsSlabAround (words : List ℕ) (granule start : ℕ) : Type 0 where
  pub slab : is_slab words start ≡ true
  pub low : start ≤ granule
  pub high : granule < start + 4

-- some slab has it
pub record HasSlabAround (words : List ℕ) (granule : ℕ) : Type 0 where
  pub start : ℕ
  pub around : IsSlabAround words granule start

-- a root names a small block of so many bytes at an address
pub record IsSmallOf (words : List ℕ) (root at size : ℕ) : Type 0 where
  pub named : gc_blocks words root ≡ Some (record { at = at; size = size })
  pub small : ¬ (IsLarge (record { at = at; size = size }))
