-- What each granule of an arena is, and what of it is loose. Of the heap this is said over the tables of the image, of the
-- arena's own granules over its layout; of slabs by the rules of the arena's variant.
use Rattle.std.specs.Prelude.{◌≡◌, ◌≢◌, ◌↔◌, ◌⊎◌, ℕ, ◌+◌, ◌*◌, ◌<◌, ◌≤◌, true, false, IsTrue, List, length, slice_index_or, Option, Some, None}
use Rattle.size_classes.specs.Classes.{class_size, class_capacity}
use Rattle.pool_layout.specs.Layout.{layout_of}
use Rattle.pool_layout.specs.Header.{version_in, granules_in}
use Rattle.image_tables.specs.declared.entry.WalEntry.{WalEntry}
use Rattle.image_tables.specs.Forms.{morphing_kind}
use Rattle.image_tables.specs.Tables.{SlabHeader, Tables}
use Rattle.heap_check.specs.Sound.{Covers, IsVacant, IsLooseLarge, IsEmptySlab, IsMorphing, IsDoneSlab}
use Rattle.heap_check.specs.Image.{bounds_of}
use Rattle.image_defects.specs.Count.{IsCount}
use Rattle.image_reading.specs.Slabs.{IsSlabOf}
use Rattle.heap_map.specs.declared.cell.SlabFill.{SlabFill}
use Rattle.heap_map.specs.declared.cell.Kind.{Kind}
use Rattle.heap_map.specs.declared.cell.Kind.TheVariants.{Header, Roots, Log, Free, Large, Slab}
use Rattle.heap_map.specs.declared.cell.Cell.{Cell}
use Rattle.heap_map.specs.Rules.{MapRules}

-- slabs of the LOG variant

-- the bit of a block is set
abbrev pub IsSetBit : SlabHeader → ℕ → Type 0
IsSetBit h i = h.bit i ≡ true

-- the bit of a block is set, and is read: no bit is while the slab takes its class
pub record IsLiveBit (h : SlabHeader) (i : ℕ) : Type 0 where
  pub read : h.kind ≢ morphing_kind
  pub set : h.bit i ≡ true

-- a place of the index table has a live block of the class before
abbrev pub IsLivePlace : SlabHeader → ℕ → Type 0
IsLivePlace h place = h.live place ≡ true

-- so many blocks of its class live in a slab
abbrev pub IsLiveCount : SlabHeader → ℕ → Type 0
IsLiveCount h live = IsCount (IsLiveBit h) (class_capacity h.class) live

-- and so many of the class before
abbrev pub IsOldCount : SlabHeader → ℕ → Type 0
IsOldCount h old = IsCount (IsLivePlace h) h.index_count old

-- and so many bytes they have together
pub record IsByteCount (h : SlabHeader) (bytes : ℕ) : Type 0 where
  pub live : ℕ
  pub old : ℕ
  pub are_live : IsLiveCount h live
  pub are_old : IsOldCount h old
  pub is : bytes ≡ live * class_size h.class + old * class_size h.old

-- the slab of an image that begins there has this state; so many blocks of its class live in it, and so many of others; they
-- have so many bytes together; and whether it is in transition is said
pub record IsSlabFill (r : MapRules) (words : List ℕ) (fill : SlabFill) : Type 0 where
  pub slab : (r.tables words).slab fill.slab.start ≡ true
  pub state : IsSlabOf (r.tables words) fill.slab
  pub live : r.HasLiveIn words fill.slab.start fill.live
  pub old : r.HasOldIn words fill.slab.start fill.old
  pub bytes : r.HasBytesIn words fill.slab.start fill.bytes
  pub turns : IsTrue fill.turns ↔ r.Turns words fill.slab.start

-- granules

-- a granule is of this kind
abbrev pub IsKind : MapRules → List ℕ → ℕ → Kind → Type 0
IsKind r words k Header = k ≡ 0
IsKind r words k Roots = (0 < k) × (16384 * k < (layout_of (version_in words)).log_at)
IsKind r words k Log = ((layout_of (version_in words)).log_at ≤ 16384 * k) × (k < (layout_of (version_in words)).first_granule)
IsKind r words k Free = IsVacant (bounds_of words) (r.tables words) k
IsKind r words k (Large start) = (0 < (r.tables words).large start) × Covers (r.tables words) start k
IsKind r words k (Slab fill) = IsSlabFill r words fill × Covers (r.tables words) fill.slab.start k

-- loose things

-- an entry is open
abbrev pub HasOpen : Option WalEntry → Type 0
HasOpen None = ⊥
HasOpen (Some entry) = Unit {0}

-- a slab in which no root's block lies, that is taking another class, or that took one and has no block of the one before
abbrev pub IsLooseSlab : Tables → ℕ → Type 0
IsLooseSlab t start = IsEmptySlab t start ⊎ (IsMorphing t start ⊎ IsDoneSlab t start)

-- what stands in a granule of a kind is loose: an entry is open in its write-ahead lines, or its extent is loose
abbrev pub IsLooseKind : MapRules → List ℕ → Kind → Type 0
IsLooseKind r words Header = HasOpen (r.tables words).open_entry
IsLooseKind r words (Large start) = IsLooseLarge (r.tables words) start
IsLooseKind r words (Slab fill) = r.IsLooseSlab words fill.slab.start
IsLooseKind r words kind = ⊥

-- cells

-- the cell says what a granule is, and whether it is loose
pub record IsCell (r : MapRules) (words : List ℕ) (k : ℕ) (cell : Cell) : Type 0 where
  pub kind : IsKind r words k cell.kind
  pub loose : IsTrue cell.loose ↔ IsLooseKind r words cell.kind

abbrev pub no_cell : Cell
no_cell = record { kind = Header; loose = false }

abbrev pub cell_in : List Cell → ℕ → Cell
cell_in cells k = slice_index_or cells k no_cell

-- the row has a cell for each granule of an arena of these words
pub record AreCells (r : MapRules) (words : List ℕ) (cells : List Cell) : Type 0 where
  pub all : length cells ≡ granules_in words
  pub each : (k : ℕ) → k < length cells → IsCell r words k (cell_in cells k)

-- no cell of a row is loose
abbrev pub AreNoneLoose : List Cell → Type 0
AreNoneLoose cells = (k : ℕ) → k < length cells → (cell_in cells k).loose ≡ false

-- the cell of a granule is a free one
pub record IsFreeCell (cells : List Cell) (k : ℕ) : Type 0 where
  pub inside : k < length cells
  pub free : (cell_in cells k).kind ≡ Free

-- the cell of a granule is of a slab that begins there and is in transition
pub record IsTurningCell (cells : List Cell) (k : ℕ) : Type 0 where
  pub inside : k < length cells
  pub fill : SlabFill
  pub kind : (cell_in cells k).kind ≡ Slab fill
  pub begins : fill.slab.start ≡ k
  pub turns : fill.turns ≡ true
