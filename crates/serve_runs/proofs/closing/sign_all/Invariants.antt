use Rattle.std.proofs.Common.{◌≡◌, ◌≤◌, ◌+◌, ◌++◌, length, List}
use Rattle.std.specs.Vec.{vec_len, vec_capacity}
use Rattle.serve_runs.proofs.Common.{Entry, ArenaState, each_of}
use Rattle.serve_runs.specs.Signed.{all_signed, AllFit}
use Rattle.serve_runs.proofs.closing.sign_all.Given as goal

abbrev pub invariant-loop-desks : goal.invariant-loop-desks
invariant-loop-desks g l = record {
  told : each_of {B = List Entry × ArenaState} l.closed.items (λ c. (c.journal.items, c.arena)) ++ all_signed (each_of l.notes.items (λ n. n.items)) (each_of {B = List Entry × ArenaState} l.desks.items (λ d. (d.journal.items, d.arena)))
      ≡ all_signed (each_of l.fn.notes.items (λ n. n.items)) (each_of {B = List Entry × ArenaState} l.fn.desks.items (λ d. (d.journal.items, d.arena)));
  fit : AllFit (each_of l.notes.items (λ n. n.items)) (each_of {B = List Entry × ArenaState} l.desks.items (λ d. (d.journal.items, d.arena)));
  room : vec_len l.closed + length l.desks.items ≤ vec_capacity l.closed;
}

abbrev pub decreases-loop-desks : goal.decreases-loop-desks
decreases-loop-desks g l = length l.desks.items
