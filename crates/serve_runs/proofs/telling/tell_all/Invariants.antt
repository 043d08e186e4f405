use Rattle.std.proofs.Common.{◌≡◌, ◌+◌, ◌++◌, ◌<◌, ◌^◌, length}
use Rattle.shared_pool.specs.Rows.{each_of}
use Rattle.trace_text.specs.Report.{arena_text}
use Rattle.trace_runs.specs.Told.{closed_texts, closed_devices}
use Rattle.serve_runs.proofs.telling.tell_all.Given as goal

abbrev pub invariant-loop-alloc : goal.invariant-loop-alloc
invariant-loop-alloc g l = record {
  text : l.text.items ++ closed_texts arena_text l.number (each_of l.closed.items (λ c. (c.journal.items, c.arena))) ≡ closed_texts arena_text 0 (each_of l.fn.closed.items (λ c. (c.journal.items, c.arena)));
  devices : each_of l.devices.items (λ d. g.P.Pmem.state d) ++ closed_devices (each_of l.closed.items (λ c. (c.journal.items, c.arena))) ≡ closed_devices (each_of l.fn.closed.items (λ c. (c.journal.items, c.arena)));
  few : l.number + length l.closed.items < 2 ^ 32;
}

abbrev pub decreases-loop-alloc : goal.decreases-loop-alloc
decreases-loop-alloc g l = length l.closed.items
