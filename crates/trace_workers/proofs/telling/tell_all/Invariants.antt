use Rattle.std.proofs.Common.{◌≡◌, ◌+◌, ◌++◌, ◌<◌, ◌^◌, length}
use Rattle.shared_pool.specs.Rows.{each_of}
use Rattle.trace_workers.specs.declared.telling.Account.TheVariants.{Summary}
use Rattle.trace_runs.specs.Told.{closed_texts, closed_devices}
use Rattle.trace_workers.specs.Summaries.{telling_of, lengths_of}
use Rattle.trace_workers.proofs.telling.tell_all.Given as goal

abbrev pub invariant-loop-alloc : goal.invariant-loop-alloc
invariant-loop-alloc g l = record {
  text : l.text.items ++ closed_texts (telling_of l.fn.account) l.number (each_of l.closed.items (λ c. (c.journal.items, c.arena))) ≡ closed_texts (telling_of l.fn.account) 0 (each_of l.fn.closed.items (λ c. (c.journal.items, c.arena)));
  devices : each_of l.devices.items (λ d. g.P.Pmem.state d) ++ closed_devices (each_of l.closed.items (λ c. (c.journal.items, c.arena))) ≡ closed_devices (each_of l.fn.closed.items (λ c. (c.journal.items, c.arena)));
  lengths : l.fn.account ≡ Summary → l.lengths.items ≡ lengths_of (each_of l.closed.items (λ c. (c.journal.items, c.arena)));
  few : l.number + length l.closed.items < 2 ^ 32;
}

abbrev pub decreases-loop-alloc : goal.decreases-loop-alloc
decreases-loop-alloc g l = length l.closed.items
