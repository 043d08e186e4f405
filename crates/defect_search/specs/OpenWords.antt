-- Blocks that an open entry may name, slab by slab, and the lines that have an entry.
use Rattle.std.specs.Prelude.{◌≡◌, ◌≢◌, ◌⊎◌, ℕ, ◌<◌, ◌≤◌, true, List}
use Rattle.size_classes.specs.Classes.{class_capacity}
use Rattle.pmem_lines.specs.Words.{word_at}
use Rattle.pool_layout.specs.Places.{wal_word}
use Rattle.image_tables.specs.Forms.{morphing_kind, morphed_kind}
use Rattle.image_tables.specs.Tables.{Tables, wal_lines}
use Rattle.heap_model.specs.Machine.{slab_block}

-- a block of its class stands at the address, in the slab at a granule
pub record IsNewBlock (t : Tables) (start at : ℕ) : Type 0 where
  pub slab : t.slab start ≡ true
  pub number : ℕ
  pub below : number < class_capacity (t.header start).class
  pub is : at ≡ (slab_block start (t.header start).class number).at

-- the slab at a granule took another class, and this place of its index table has its block at the address
pub record IsOldBlock (t : Tables) (start at place : ℕ) : Type 0 where
  pub slab : t.slab start ≡ true
  pub kind : (t.header start).kind ≡ morphed_kind
  pub below : place < (t.header start).index_count
  pub is : at ≡ (slab_block start (t.header start).old ((t.header start).number place)).at

-- no slab takes another class
pub record HasNoneMorphing (t : Tables) : Type 0 where
  pub none_morphing : (start : ℕ) → t.slab start ≡ true → (t.header start).kind ≢ morphing_kind

-- one of two words at least is not 0, and where neither is, they are the same
pub record IsMovable (from to : ℕ) : Type 0 where
  pub some : (from ≢ 0) ⊎ (to ≢ 0)
  pub same : from ≢ 0 → to ≢ 0 → from ≡ to

-- no line from one on has a word other than 0
pub record AreClosedFrom (words : List ℕ) (from : ℕ) : Type 0 where
  pub closed : (line : ℕ) → from ≤ line → line < wal_lines → word_at words (wal_word line) ≡ 0

-- the line is the first from one on that has
pub record IsNextLine (words : List ℕ) (from line : ℕ) : Type 0 where
  pub low : from ≤ line
  pub below : line < wal_lines
  pub some : word_at words (wal_word line) ≢ 0
  pub between : (other : ℕ) → from ≤ other → other < line → word_at words (wal_word other) ≡ 0
