use Rattle.std.proofs.Common.{◌≡◌, ◌+◌, ◌-◌, length}
use Rattle.pmem_lines.specs.Pmem.{words_of, appended}
use Rattle.durable_steps.specs.Rows.{flushes_of}
use Rattle.durable_steps.proofs.row.flush_lines.Given as goal

abbrev pub invariant-loop-i : goal.invariant-loop-i
invariant-loop-i g l =
    let state = g.P.Pmem.state in
    record {
      whole : appended (state l.device) (flushes_of (l.first + l.i) (l.count - l.i)) ≡ appended (state l.fn.device) (flushes_of l.first l.count);
      size : length (words_of (state l.device)) ≡ length (words_of (state l.fn.device));
      room : (state l.device).room ≡ (state l.fn.device).room;
      count : length (state l.device).events ≡ length (state l.fn.device).events + l.i;
    }
