-- What is known of an image while its granules are gone through.
use Rattle.std.specs.Prelude.{◌≡◌, ℕ, ◌+◌, ◌<◌, ◌≤◌, List, length, true}
use Rattle.pool_layout.specs.Layout.{layout_of}
use Rattle.pool_layout.specs.Header.{version_in, granules_in}
use Rattle.image_tables.specs.Tables.{Tables, tables_of}
use Rattle.book_log.specs.Book.{Reads}
use Rattle.heap_model.specs.Runs.{IsFreeRow}
use Rattle.heap_check.specs.Sound.{granules_at, Covers}
use Rattle.heap_check.specs.Image.{IsSoundImage}
use Rattle.defect_search.specs.Roots.{IsNamedStart, IsNamedGranule, AreMarks}
use Rattle.heap_map.specs.declared.cell.Cell.{Cell}
use Rattle.heap_map.specs.declared.cell.SlabFill.{SlabFill}
use Rattle.heap_map.specs.declared.reading.Reading.{Reading}
use Rattle.heap_map.specs.declared.scanning.Scan.{Scan}
use Rattle.heap_map.specs.declared.runs.Runs.{Runs}
use Rattle.slab_header.specs.State.{kind_of, class_of, old_of}
use Rattle.heap_map.specs.Rules.{MapRules}
use Rattle.heap_map.specs.Cells.{IsLiveCount, IsOldCount, HasOpen, IsCell, cell_in}

-- the image is sound, and what was read of it is what its tables say: the live extents, whether an entry is open, and the
-- granules at which, and in which, blocks of roots begin
pub record IsReading (words : List ℕ) (reading : Reading) : Type 0 where
  pub sound : IsSoundImage words
  pub reads : Reads reading.log words
  pub granules : reading.log.granules ≡ granules_in words
  pub opens : reading.opens ≡ true → HasOpen (tables_of words).open_entry
  pub opened : HasOpen (tables_of words).open_entry → reading.opens ≡ true
  pub starts_size : length reading.starts.items ≡ granules_in words
  pub starts : AreMarks (IsNamedStart (tables_of words) (layout_of (version_in words)).roots) reading.starts.items
  pub met_size : length reading.met.items ≡ granules_in words
  pub met : AreMarks (IsNamedGranule (tables_of words) (layout_of (version_in words)).roots) reading.met.items

-- the cell is that of each granule of the extent that begins at a start
pub record IsExtentCell (r : MapRules) (words : List ℕ) (start : ℕ) (cell : Cell) : Type 0 where
  pub each : (k : ℕ) → Covers (r.tables words) start k → IsCell r words k cell

-- the extents that begin before granule n end where the scan says at the latest, and from the last of these granules on up to
-- there its cell is the right one
pub record IsScan (r : MapRules) (words : List ℕ) (n : ℕ) (scan : Scan) : Type 0 where
  pub inside : scan.end ≤ granules_in words
  pub ended : (start : ℕ) → start < n → 0 < granules_at (r.tables words) start → start + granules_at (r.tables words) start ≤ scan.end
  pub cell : (k : ℕ) → n ≤ k + 1 → k < scan.end → IsCell r words k scan.cell

-- the row has the cells of the first n granules
pub record AreCellsBelow (r : MapRules) (words : List ℕ) (n : ℕ) (cells : List Cell) : Type 0 where
  pub all : length cells ≡ n
  pub each : (k : ℕ) → k < n → IsCell r words k (cell_in cells k)

-- no slab begins at the granule
pub record HasNoFill (t : Tables) (start : ℕ) : Type 0 where
  pub none : ¬ (t.slab start ≡ true)

-- this one does: what its header says, and how many blocks live in it
pub record IsFillAt (t : Tables) (start : ℕ) (fill : SlabFill) : Type 0 where
  pub slab : t.slab start ≡ true
  pub kind : (t.header start).kind ≡ kind_of fill.slab.state
  pub class : (t.header start).class ≡ class_of fill.slab.state
  pub was : (t.header start).old ≡ old_of fill.slab.state
  pub live : IsLiveCount (t.header start) fill.live
  pub old : IsOldCount (t.header start) fill.old
  pub few_live : fill.live ≤ 4096
  pub few_old : fill.old ≤ 64

-- Of the first n granules the last ones are a free row that can't be begun earlier, and no row is longer than one that was
-- found.
pub record AreRuns (Free : ℕ → Type 0) (n : ℕ) (runs : Runs) : Type 0 where
  pub within : runs.run ≤ n
  pub row : (k : ℕ) → k < n → n ≤ k + runs.run → Free k
  pub edge : (k : ℕ) → k + runs.run + 1 ≡ n → ¬ (Free k)
  pub start : ℕ
  pub found : IsFreeRow Free start runs.longest
  pub most : (other long : ℕ) → IsFreeRow Free other long → other + long ≤ n → long ≤ runs.longest
