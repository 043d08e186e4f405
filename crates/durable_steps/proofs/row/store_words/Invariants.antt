use Rattle.std.proofs.Common.{◌≡◌, ◌+◌, ◌*◌, length, drop}
use Rattle.pmem_lines.specs.Pmem.{words_of, appended}
use Rattle.durable_steps.specs.Rows.{stores_at}
use Rattle.durable_steps.proofs.row.store_words.Given as goal

abbrev pub invariant-loop-i : goal.invariant-loop-i
invariant-loop-i g l =
    let state = g.P.Pmem.state in
    record {
      whole : appended (state l.device) (stores_at (l.from + 8 * l.i) (drop l.i l.words)) ≡ appended (state l.fn.device) (stores_at l.from l.words);
      size : length (words_of (state l.device)) ≡ length (words_of (state l.fn.device));
      room : (state l.device).room ≡ (state l.fn.device).room;
      count : length (state l.device).events ≡ length (state l.fn.device).events + l.i;
    }
