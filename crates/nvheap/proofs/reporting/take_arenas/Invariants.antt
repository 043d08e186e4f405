use Rattle.std.proofs.Common.{◌≡◌, length}
use Rattle.nvheap.proofs.Common.{pool_of, AreNew}
use Rattle.nvheap.proofs.reporting.take_arenas.Given as goal

abbrev pub invariant-loop-number : goal.invariant-loop-number
invariant-loop-number g l = record {
  all : length l.arenas.items ≡ l.number;
  new : AreNew (pool_of l.trace) 0 l.arenas.items;
  places : g.H.Shelf.places l.shelf ≡ g.H.Shelf.places l.fn.shelf;
  images : g.H.Shelf.images l.shelf ≡ g.H.Shelf.images l.fn.shelf;
}
