-- What the tables of an image say of granules and slabs to whoever chooses among them: which rows are vacant, how many blocks
-- live in a slab, which slabs are normal, and the view that the choice of a malloc has.
use Rattle.std.specs.Prelude.{◌≡◌, ◌≢◌, ◌==◌, ◌&&◌, ℕ, ◌+◌, ◌<◌, ◌≤◌, List, length, slice_index, Option, Some, None, if◌then◌else◌}
use Rattle.pool_layout.specs.Header.{granules_in}
use Rattle.image_tables.specs.Forms.{normal_kind}
use Rattle.image_tables.specs.Tables.{Tables, tables_of}
use Rattle.heap_model.specs.Machine.{Bounds}
use Rattle.heap_model.specs.Choice.{View}
use Rattle.heap_model.specs.Slabs.{live_below}
use Rattle.heap_check.specs.Heap.{heap, slabs, IsUnusedIn}
use Rattle.heap_check.specs.Sound.{IsVacant}
use Rattle.heap_check.specs.Image.{bounds_of}

-- so many granules from a start on are vacant
pub record IsVacantRow (b : Bounds) (t : Tables) (start count : ℕ) : Type 0 where
  pub low : b.first ≤ start
  pub high : start + count ≤ b.granules
  pub vacant : (k : ℕ) → start ≤ k → k < start + count → IsVacant b t k

-- how many live blocks lie in the slab at a start, where one begins there
abbrev pub live_in : List ℕ → ℕ → ℕ
live_in words start = if (tables_of words).slab start then live_below (heap (tables_of words)) start (bounds_of words).roots else 0

-- the counts are those of these words
pub record AreCountsOf (counts : List ℕ) (words : List ℕ) : Type 0 where
  pub size : length counts ≡ granules_in words
  pub each : (start : ℕ) → slice_index counts start ≡ live_in words start

-- the class of the slab at a start that is normal: no live block in it has another size
abbrev pub normal_of : Tables → ℕ → Option ℕ
normal_of t start = if t.slab start && ((t.header start).kind == normal_kind) then Some (t.header start).class else None

-- the view that the choice of a malloc has of the tables
abbrev pub tables_view : Bounds → Tables → View
tables_view b t = record {
  free = IsVacant b t;
  slab = slabs t;
  unused = IsUnusedIn t;
  live = λ s. live_below (heap t) s b.roots;
  in_transition = λ s. (t.header s).kind ≢ normal_kind;
}
