-- The rules of the LOG variant for maps.
use Rattle.std.specs.Prelude.{◌≢◌}
use Rattle.pool_layout.specs.Header.{granules_in}
use Rattle.image_tables.specs.Forms.{normal_kind}
use Rattle.image_tables.specs.Tables.{tables_of}
use Rattle.heap_check.specs.Heap.{heap}
use Rattle.heap_check.specs.Image.{IsSoundImage, IsExactImage}
use Rattle.image_defects.specs.Summaries.{IsLooseTotal}
use Rattle.heap_map.specs.declared.facts.Variant.TheVariants as variants
use Rattle.heap_map.specs.Rules.{MapRules}
use Rattle.heap_map.specs.Cells.{IsLiveCount, IsOldCount, IsByteCount, IsLooseSlab}
use Rattle.heap_map.specs.Facts.{HasLive, HasOld, IsTotal}

-- Which blocks live in a slab is said by its bits and its index table; it is in transition where its state is not normal; and
-- blocks of a class are counted slab by slab.
abbrev pub log_rules : MapRules
log_rules = record {
  variant = variants.Log;
  tables = tables_of;
  IsSound = IsSoundImage;
  IsExact = IsExactImage;
  block = λ words root. heap (tables_of words) root;
  IsLooseSlab = λ words start. IsLooseSlab (tables_of words) start;
  Turns = λ words start. ((tables_of words).header start).kind ≢ normal_kind;
  HasLiveIn = λ words start live. IsLiveCount ((tables_of words).header start) live;
  HasOldIn = λ words start old. IsOldCount ((tables_of words).header start) old;
  HasBytesIn = λ words start bytes. IsByteCount ((tables_of words).header start) bytes;
  AreLiveOf = λ words class live. IsTotal (HasLive (tables_of words) class) (granules_in words) live;
  AreOldOf = λ words class old. IsTotal (HasOld (tables_of words) class) (granules_in words) old;
  AreLoose = λ words total. IsLooseTotal (tables_of words) (granules_in words) total;
}
