use Rattle.std.proofs.Common.{◌≡◌, ◌≤◌, ◌+◌, ◌++◌, length}
use Rattle.std.specs.Vec.{vec_len, vec_capacity}
use Rattle.shared_pool.specs.Rows.{each_of}
use Rattle.serve_runs.proofs.closing.part_clerks.Given as goal

abbrev pub invariant-loop-clerks : goal.invariant-loop-clerks
invariant-loop-clerks l = record {
  owners : l.owners.items ++ each_of l.clerks.items (λ c. c.owner) ≡ each_of l.fn.clerks.items (λ c. c.owner);
  notes : each_of l.notes.items (λ n. n.items) ++ each_of l.clerks.items (λ c. c.senders.items) ≡ each_of l.fn.clerks.items (λ c. c.senders.items);
  room : vec_len l.owners + length l.clerks.items ≤ vec_capacity l.owners;
  space : vec_len l.notes + length l.clerks.items ≤ vec_capacity l.notes;
}

abbrev pub decreases-loop-clerks : goal.decreases-loop-clerks
decreases-loop-clerks l = length l.clerks.items
