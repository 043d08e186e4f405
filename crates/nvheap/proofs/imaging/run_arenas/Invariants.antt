use Rattle.std.proofs.Common.{◌≡◌, length}
use Rattle.nvheap.proofs.Common.{each_of, pool_of}
use Rattle.nvheap.specs.Imaging.{AreRunThrough, images_of}
use Rattle.nvheap.proofs.imaging.run_arenas.Given as goal

abbrev pub invariant-loop-arena : goal.invariant-loop-arena
invariant-loop-arena g l = record {
  all : length l.devices.items ≡ l.arena;
  runs : AreRunThrough (pool_of l.trace) l.trace.calls.items 0 (each_of l.devices.items (λ d. g.H.Device.Pmem.state d));
  bytes : l.bytes.items ≡ images_of (each_of l.devices.items (λ d. g.H.Device.Pmem.state d));
  piece : length l.piece.items ≡ 4096;
  places : g.H.Shelf.places l.shelf ≡ g.H.Shelf.places l.fn.shelf;
  images : g.H.Shelf.images l.shelf ≡ g.H.Shelf.images l.fn.shelf;
}
