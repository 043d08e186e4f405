use Rattle.std.proofs.Common.{◌≡◌}
use Rattle.nvheap.proofs.Common.{each_of, pool_of}
use Rattle.gc_runs.specs.Told.{IsToldBelow}
use Rattle.nvheap.proofs.gc_reporting.run_arenas.Given as goal

abbrev pub invariant-loop-arena : goal.invariant-loop-arena
invariant-loop-arena g l = record {
  told : IsToldBelow (pool_of l.trace) l.trace.calls.items l.arena l.text.items (each_of l.devices.items (λ d. g.H.Device.Pmem.state d));
  places : g.H.Shelf.places l.shelf ≡ g.H.Shelf.places l.fn.shelf;
  images : g.H.Shelf.images l.shelf ≡ g.H.Shelf.images l.fn.shelf;
}
