use Rattle.std.proofs.Common.{[], slice_index}
use Rattle.pool_layout.specs.Layout.{layout_of}
use Rattle.log_room.proofs.Storing.{IsStoring}
use Rattle.log_room.proofs.filling.zero_entries.Given as goal

abbrev pub invariant-loop-entry : goal.invariant-loop-entry
invariant-loop-entry g l = IsStoring (g.P.Pmem.state l.fn.device) (g.P.Pmem.state l.device) l.version l.chunk (slice_index []) l.entry (layout_of l.version).chunk_entries
