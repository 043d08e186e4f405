use Rattle.std.proofs.Common.{◌≡◌, ◌≤◌, length}
use Rattle.shared_pool.specs.Rows.{each_of}
use Rattle.nvheap.specs.Outside.{put_devices}
use Rattle.nvheap.proofs.shelf.put_all.Given as goal

abbrev pub invariant-loop-device : goal.invariant-loop-device
invariant-loop-device g l = record {
  places : put_devices (g.H.Shelf.places l.shelf) 0 (each_of l.devices.items (λ d. g.H.Device.Pmem.state d)) ≡ put_devices (g.H.Shelf.places l.fn.shelf) 0 (each_of l.fn.devices.items (λ d. g.H.Device.Pmem.state d));
  images : g.H.Shelf.images l.shelf ≡ g.H.Shelf.images l.fn.shelf;
  few : length l.devices.items ≤ 16;
}

abbrev pub decreases-loop-device : goal.decreases-loop-device
decreases-loop-device g l = length l.devices.items
