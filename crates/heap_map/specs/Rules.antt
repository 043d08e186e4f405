-- What a variant of an arena says to a map of it: the tables of its images, and what is counted in slabs.
use Rattle.std.specs.Prelude.{ℕ, List, Option}
use Rattle.image_tables.specs.Tables.{Tables}
use Rattle.heap_model.specs.Machine.{Range}
use Rattle.heap_map.specs.declared.facts.Variant.{Variant}

pub record MapRules : Type 1 where
  -- which variant it is
  pub variant : Variant
  -- what the words of an arena say, table by table
  pub tables : List ℕ → Tables
  -- its image is sound, and it is exact
  pub IsSound : List ℕ → Type 0
  pub IsExact : List ℕ → Type 0
  -- the block of a root
  pub block : List ℕ → ℕ → Option Range
  -- the slab that begins at a granule is loose, and it is in transition
  pub IsLooseSlab : List ℕ → ℕ → Type 0
  pub Turns : List ℕ → ℕ → Type 0
  -- so many blocks of its class live in it, so many of other classes, and they have so many bytes together
  pub HasLiveIn : List ℕ → ℕ → ℕ → Type 0
  pub HasOldIn : List ℕ → ℕ → ℕ → Type 0
  pub HasBytesIn : List ℕ → ℕ → ℕ → Type 0
  -- so many blocks of a class live in slabs of the class, and so many in slabs of others
  pub AreLiveOf : List ℕ → ℕ → ℕ → Type 0
  pub AreOldOf : List ℕ → ℕ → ℕ → Type 0
  -- so many things are loose
  pub AreLoose : List ℕ → ℕ → Type 0
