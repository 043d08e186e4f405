use Rattle.gc_check.specs.Heap.{gc_tables}
use Rattle.gc_map.specs.Places.{AreTallies}
use Rattle.gc_map.proofs.tallies.no_tallies.Given as goal

abbrev pub invariant-loop-granule : goal.invariant-loop-granule
invariant-loop-granule l = AreTallies (gc_tables l.words) l._granule 0 l.tallies.items
