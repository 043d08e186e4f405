use Rattle.std.proofs.Common.{◌≡◌, ◌-◌, drop, slice_index}
use Rattle.log_room.proofs.Common.{layout_of, live_at, live_words}
use Rattle.log_room.proofs.Storing.{IsStoring}
use Rattle.log_room.proofs.copying.copy_entries.Given as goal

abbrev pub invariant-loop-entry : goal.invariant-loop-entry
invariant-loop-entry g l =
    let live = live_words (live_at l.log) l.from (l.log.granules - l.from) in
    record {
      storing : IsStoring (g.P.Pmem.state l.fn.device) (g.P.Pmem.state l.device) l.version l.chunk (slice_index live) l.entry (layout_of l.version).chunk_entries;
      rest : live_words (live_at l.log) l.behind (l.log.granules - l.behind) ≡ drop l.entry live;
    }
