-- When a slab is fit for a class, by the blocks that it holds: what the machine's choice looks at, over tables.
use Rattle.std.specs.Prelude.{◌≡◌, ◌≢◌, ◌==◌, ℕ, ◌+◌, ◌<◌, length, true, if◌then◌else◌}
use Rattle.size_classes.specs.Classes.{class_size, class_capacity}
use Rattle.image_tables.specs.Forms.{morphing_kind}
use Rattle.image_tables.specs.Tables.{Tables, SlabHeader}
use Rattle.slab_header.specs.Morph.{numbers_below, held_numbers}
use Rattle.heap_model.specs.Machine.{Range, AreApart, slab_block}
use Rattle.heap_model.specs.Choice.{SlabView, IsFit}
use Rattle.heap_check.specs.Heap.{slabs, Holds}
use Rattle.slab_morph.specs.SlabHeaders.{alone}

-- how many blocks a slab holds: set bits, where they are read, and live index entries
abbrev pub held_count : Tables → ℕ → ℕ
held_count t start = (if (t.header start).kind == morphing_kind then 0 else length (held_numbers t start)) + length (numbers_below (t.header start).live (t.header start).index_count)

-- a block that the slab holds has another size than that of the slab's class
pub record HoldsOther (t : Tables) (start : ℕ) : Type 0 where
  pub range : Range
  pub holds : Holds t start range
  pub other : range.size ≢ class_size (t.header start).class

-- a range overlaps no block that the slab holds
pub record IsClearOf (t : Tables) (start : ℕ) (range : Range) : Type 0 where
  pub each : (other : Range) → Holds t start other → AreApart range other

-- the slabs, by the blocks that they hold
abbrev pub held_view : Tables → SlabView
held_view t = record { blocks = record { slab = slabs t; unused = λ start class number. IsClearOf t start (slab_block start class number) }; live = held_count t; in_transition = HoldsOther t }

-- the slab at a granule that has this header is fit for a class, as the machine has it
abbrev pub IsFitHeader : SlabHeader → ℕ → ℕ → Type 0
IsFitHeader h start class = IsFit (held_view (alone h)) class start

-- block j of a class, in a slab of the class `own`, overlaps no block whose bit is set
pub record IsClearOfBits (h : SlabHeader) (start own class j : ℕ) : Type 0 where
  pub within : j < class_capacity class
  pub each : (i : ℕ) → i < class_capacity own → h.bit i ≡ true → AreApart (slab_block start class j) (slab_block start own i)
