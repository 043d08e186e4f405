use Rattle.std.proofs.Common.{◌≡◌, ◌+◌, ◌-◌, ◌*◌, drop, length}
use Rattle.log_room.proofs.Common.{words_of, appended, live_at, live_words}
use Rattle.log_room.specs.Copies.{copy_events, fill_count}
use Rattle.log_room.proofs.copying.copy_live.Given as goal

abbrev pub invariant-loop-chunk : goal.invariant-loop-chunk
invariant-loop-chunk g l =
    let state = g.P.Pmem.state in
    record {
      whole : appended (state l.device) (copy_events l.version (drop l.chunk-index l.fresh) (live_words (live_at l.log) l.from (l.log.granules - l.from)))
          ≡ appended (state l.fn.device) (copy_events l.version l.fresh (live_words (live_at l.log) 0 l.log.granules));
      size : length (words_of (state l.device)) ≡ length (words_of (state l.fn.device));
      room : (state l.device).room ≡ (state l.fn.device).room;
      count : length (state l.device).events ≡ length (state l.fn.device).events + fill_count l.version * l.chunk-index;
    }
