-- What is read of a sound image before its granules are gone through.
use Rattle.std.specs.Prelude.{List, ℕ}
use Rattle.pool_layout.specs.Header.{granules_in}
use Rattle.gc_check.specs.Heap.{gc_tables}
use Rattle.gc_search.specs.Image.{IsSoundWith}
use Rattle.gc_map.specs.GcRules.{roots_in}
use Rattle.gc_map.specs.Places.{ArePlaces, AreTallies}
use Rattle.gc_map.specs.declared.reading.Reading.{Reading}

-- its log and names, where the block of each root lies, and how many live in each slab
pub record IsReading (words : List ℕ) (reading : Reading) : Type 0 where
  pub image : IsSoundWith words reading.image
  pub places : ArePlaces (gc_tables words) (roots_in words) reading.places.items
  pub tallies : AreTallies (gc_tables words) (granules_in words) (roots_in words) reading.tallies.items
