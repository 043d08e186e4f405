-- A slab gets another class: what it stores, and what it leaves.
use Rattle.std.specs.Prelude.{◌≡◌, ℕ, ◌+◌, ◌*◌, ◌^◌, List, Some}
use Rattle.pmem_lines.specs.declared.event.Event.{Event}
use Rattle.durable_steps.specs.Steps.{word_events}
use Rattle.image_tables.specs.Forms.{normal_kind}
use Rattle.image_tables.specs.Tables.{state_word}
use Rattle.heap_model.specs.Machine.{with_key}
use Rattle.heap_check.specs.Image.{bounds_of}
use Rattle.gc_check.specs.Image.{IsGcExactImage}
use Rattle.gc_check.specs.State.{gc_slabs, HaveSameGcHeap}

-- the state word of a slab of a class
abbrev pub normal_word : ℕ → ℕ
normal_word class = normal_kind + 2 ^ 8 * class

-- the slab at a start gets it
abbrev pub class_events : ℕ → ℕ → List Event
class_events start class = word_events (8 * state_word start) (normal_word class)

-- The slab at a start has the class, and the image is exact, with the same blocks and the same other slabs.
pub record IsClassPut (words : List ℕ) (start class : ℕ) (new : List ℕ) : Type 0 where
  pub image : IsGcExactImage new
  pub bounds : bounds_of new ≡ bounds_of words
  pub heap : HaveSameGcHeap words new
  pub slabs : (other : ℕ) → gc_slabs new other ≡ with_key (gc_slabs words) start (Some class) other
