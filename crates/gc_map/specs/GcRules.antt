-- The rules of the GC variant for maps.
use Rattle.std.specs.Prelude.{ℕ, List}
use Rattle.pool_layout.specs.Layout.{layout_of}
use Rattle.pool_layout.specs.Header.{version_in, granules_in}
use Rattle.heap_check.specs.Sound.{IsEmptySlab}
use Rattle.image_defects.specs.Count.{IsCount}
use Rattle.gc_check.specs.Heap.{gc_tables, gc_heap}
use Rattle.gc_check.specs.Image.{IsGcSoundImage, IsGcExactImage}
use Rattle.heap_map.specs.declared.facts.Variant.TheVariants as variants
use Rattle.heap_map.specs.Rules.{MapRules}
use Rattle.heap_map.specs.Facts.{IsTotal}
use Rattle.gc_map.specs.Slabs.{IsLiveIn, IsOldIn, HasBytes, IsMixed, IsLiveOf, IsOldOf, IsLooseCount}

-- how many roots an arena of these words has
abbrev pub roots_in : List ℕ → ℕ
roots_in words = (layout_of (version_in words)).roots

-- Which blocks live in a slab, and of which classes, is read off the roots; it is in transition where a block of another class
-- lives in it. Loose are a large extent that no root names and a slab in which no root's block lies, and no entry is ever open.
abbrev pub gc_rules : MapRules
gc_rules = record {
  variant = variants.Gc;
  tables = gc_tables;
  IsSound = IsGcSoundImage;
  IsExact = IsGcExactImage;
  block = λ words root. gc_heap (gc_tables words) root;
  IsLooseSlab = λ words start. IsEmptySlab (gc_tables words) start;
  Turns = λ words start. IsMixed (gc_tables words) start;
  HasLiveIn = λ words start live. IsCount (IsLiveIn (gc_tables words) start) (roots_in words) live;
  HasOldIn = λ words start old. IsCount (IsOldIn (gc_tables words) start) (roots_in words) old;
  HasBytesIn = λ words start bytes. IsTotal (HasBytes (gc_tables words) start) (roots_in words) bytes;
  AreLiveOf = λ words class live. IsCount (IsLiveOf (gc_tables words) class) (roots_in words) live;
  AreOldOf = λ words class old. IsCount (IsOldOf (gc_tables words) class) (roots_in words) old;
  AreLoose = λ words total. IsLooseCount (gc_tables words) (granules_in words) total;
}
