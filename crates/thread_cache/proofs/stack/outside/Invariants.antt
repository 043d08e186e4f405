use Rattle.std.proofs.Common.{◌≡◌, ◌≤◌, ◌/◌, length, take, not}
use Rattle.std.specs.List.{filter}
use Rattle.heap_model.specs.Slabs.{is_within}
use Rattle.thread_cache.proofs.stack.outside.Given as goal

abbrev pub invariant-loop-at : goal.invariant-loop-at
invariant-loop-at l = record {
  kept : l.kept.items ≡ filter (λ at. not (is_within (l.slab / 16384) at)) (take l.at-index l.at-items);
  few : length l.kept.items ≤ l.at-index;
}
