-- What is told of the granules of a sound image, in numbers.
use Rattle.std.specs.Prelude.{◌≡◌, ◌≢◌, ◌↔◌, ◌⊎◌, ℕ, zero, suc, ◌+◌, ◌*◌, ◌<◌, ◌≤◌, true, List, length, slice_index_or}
use Rattle.pool_layout.specs.Layout.{layout_of}
use Rattle.pool_layout.specs.Header.{version_in, granules_in}
use Rattle.image_tables.specs.Forms.{normal_kind}
use Rattle.image_tables.specs.Tables.{Tables}
use Rattle.heap_model.specs.Machine.{Bounds}
use Rattle.heap_model.specs.Runs.{IsFreeRow}
use Rattle.heap_model.specs.Choice.{HasNoSite}
use Rattle.heap_check.specs.Sound.{IsVacant}
use Rattle.heap_check.specs.Image.{bounds_of}
use Rattle.heap_check.specs.Views.{tables_view}
use Rattle.image_defects.specs.Count.{IsCount}
use Rattle.image_defects.specs.declared.summary.Summary.{Summary}
use Rattle.image_defects.specs.Summaries.{HasLarge, HasSlab, HasRoot}
use Rattle.heap_map.specs.declared.facts.ClassFill.{ClassFill}
use Rattle.heap_map.specs.declared.facts.Facts.{Facts}
use Rattle.heap_map.specs.Rules.{MapRules}
use Rattle.heap_map.specs.Cells.{IsLiveCount, IsOldCount}

-- free granules

-- some row of free granules has this length, and none is longer
pub record IsLongestRow (Free : ℕ → Type 0) (longest : ℕ) : Type 0 where
  pub start : ℕ
  pub row : IsFreeRow Free start longest
  pub most : (other long : ℕ) → IsFreeRow Free other long → long ≤ longest

-- a request above the largest class is given whole granules: it finds no place exactly where it is above so many
abbrev pub IsGreatestRequest : Bounds → Tables → ℕ → Type 0
IsGreatestRequest b t most = (size : ℕ) → 16384 < size → (HasNoSite (tables_view b t) size ↔ (16384 * most < size))

-- slabs

-- a slab that is in transition begins at the granule
pub record IsInTransition (r : MapRules) (words : List ℕ) (start : ℕ) : Type 0 where
  pub slab : (r.tables words).slab start ≡ true
  pub turns : r.Turns words start

-- a slab of a class does
pub record IsOfClass (t : Tables) (class start : ℕ) : Type 0 where
  pub slab : t.slab start ≡ true
  pub is : (t.header start).class ≡ class

-- a slab that had the class before and is not normal does
pub record WasOfClass (t : Tables) (class start : ℕ) : Type 0 where
  pub slab : t.slab start ≡ true
  pub kind : (t.header start).kind ≢ normal_kind
  pub was : (t.header start).old ≡ class

-- of the blocks of a class so many live in the slab of the class at a granule, none where no such slab begins there
abbrev pub HasLive : Tables → ℕ → ℕ → ℕ → Type 0
HasLive t class start live = (IsOfClass t class start × IsLiveCount (t.header start) live) ⊎ (¬ (IsOfClass t class start) × (live ≡ 0))

-- and so many in the slab there that had the class before
abbrev pub HasOld : Tables → ℕ → ℕ → ℕ → Type 0
HasOld t class start old = (WasOfClass t class start × IsOldCount (t.header start) old) ⊎ (¬ (WasOfClass t class start) × (old ≡ 0))

-- the numbers of the first n granules add up to a total
abbrev pub IsTotal : (ℕ → ℕ → Type 0) → ℕ → ℕ → Type 0
IsTotal Has zero total = total ≡ 0
IsTotal Has (suc n) total = (here : ℕ) × (before : ℕ) × Has n here × IsTotal Has n before × (total ≡ before + here)

-- how full the slabs of a class are among the first n granules, in the LOG variant
pub record IsClassFill (t : Tables) (n class : ℕ) (fill : ClassFill) : Type 0 where
  pub slabs : IsCount (IsOfClass t class) n fill.slabs
  pub live : IsTotal (HasLive t class) n fill.live
  pub old : IsTotal (HasOld t class) n fill.old

abbrev pub no_fill : ClassFill
no_fill = record { slabs = 0; live = 0; old = 0 }

abbrev pub fill_in : List ClassFill → ℕ → ClassFill
fill_in fills class = slice_index_or fills class no_fill

-- how full the slabs of a class are
pub record IsFillOf (r : MapRules) (words : List ℕ) (class : ℕ) (fill : ClassFill) : Type 0 where
  pub slabs : IsCount (IsOfClass (r.tables words) class) (granules_in words) fill.slabs
  pub live : r.AreLiveOf words class fill.live
  pub old : r.AreOldOf words class fill.old

-- the list says how full the slabs of each class are
pub record AreClassFills (r : MapRules) (words : List ℕ) (fills : List ClassFill) : Type 0 where
  pub all : length fills ≡ 36
  pub each : (class : ℕ) → class < 36 → IsFillOf r words class (fill_in fills class)

-- an arena

-- so many large extents and slabs are live, so many roots hold a block, and so many things are loose
pub record AreSummed (r : MapRules) (words : List ℕ) (summary : Summary) : Type 0 where
  pub large : IsCount (HasLarge (r.tables words)) (granules_in words) summary.large
  pub slabs : IsCount (HasSlab (r.tables words)) (granules_in words) summary.slabs
  pub blocks : IsCount (HasRoot (r.tables words)) (layout_of (version_in words)).roots summary.blocks
  pub loose : r.AreLoose words summary.loose

-- the numbers are those of an arena of these words
pub record AreFacts (r : MapRules) (words : List ℕ) (facts : Facts) : Type 0 where
  pub variant : facts.variant ≡ r.variant
  pub version : facts.version ≡ version_in words
  pub granules : facts.granules ≡ granules_in words
  pub free : IsCount (IsVacant (bounds_of words) (r.tables words)) (granules_in words) facts.free
  pub longest : IsLongestRow (IsVacant (bounds_of words) (r.tables words)) facts.longest
  pub transitions : IsCount (IsInTransition r words) (granules_in words) facts.transitions
  pub summary : AreSummed r words facts.summary
