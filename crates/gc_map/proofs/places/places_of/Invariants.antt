use Rattle.gc_check.specs.Heap.{gc_tables}
use Rattle.gc_map.specs.Places.{ArePlaces}
use Rattle.gc_map.proofs.places.places_of.Given as goal

abbrev pub invariant-loop-root : goal.invariant-loop-root
invariant-loop-root l = ArePlaces (gc_tables l.words) l.root l.places.items
