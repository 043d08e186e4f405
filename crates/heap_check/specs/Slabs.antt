-- An image has one slab more than another: what the tables of both say.
use Rattle.std.specs.Prelude.{◌≡◌, ◌≢◌, ℕ, ◌<◌, true, false}
use Rattle.size_classes.specs.Classes.{class_capacity}
use Rattle.image_tables.specs.Forms.{normal_kind}
use Rattle.image_tables.specs.Tables.{SlabHeader, Tables}

-- two tables say the same of a slab
pub record IsSameSlab (t new : Tables) (start : ℕ) : Type 0 where
  pub slab : new.slab start ≡ t.slab start
  pub header : new.header start ≡ t.header start

-- the second tables have one slab more, and say the same of all else
pub record IsSlabMore (t new : Tables) (start : ℕ) : Type 0 where
  pub word : new.word ≡ t.word
  pub root : new.root ≡ t.root
  pub entry : new.open_entry ≡ t.open_entry
  pub large : new.large ≡ t.large
  pub none : t.slab start ≡ false
  pub slab : new.slab start ≡ true
  pub others : (other : ℕ) → other ≢ start → IsSameSlab t new other

-- a slab's header is as it is made: a normal one of this class that holds no block
pub record IsFresh (h : SlabHeader) (class : ℕ) : Type 0 where
  pub kind : h.kind ≡ normal_kind
  pub class_is : h.class ≡ class
  pub old : h.old ≡ 0
  pub index_count : h.index_count ≡ 0
  pub clear : (i : ℕ) → i < class_capacity class → h.bit i ≡ false

-- the second tables have one slab more, a fresh one
pub record IsWithSlab (t new : Tables) (start class : ℕ) : Type 0 where
  pub more : IsSlabMore t new start
  pub fresh : IsFresh (new.header start) class
