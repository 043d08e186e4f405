use Rattle.pool_layout.specs.Header.{granules_in}
use Rattle.gc_check.specs.Heap.{gc_tables}
use Rattle.gc_map.specs.Places.{AreTallies}
use Rattle.gc_map.proofs.tallies.tallies_of.Given as goal

abbrev pub invariant-loop-root : goal.invariant-loop-root
invariant-loop-root l = AreTallies (gc_tables l.words) (granules_in l.words) l.root l.tallies.items
