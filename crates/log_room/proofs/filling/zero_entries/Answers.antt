use Rattle.std.proofs.Common.{arith, ap}
use Rattle.pool_layout.specs.declared.layout.Layout.{Layout}
use Rattle.log_room.proofs.Storing.{storing_more, storing_done, none_value}
use Rattle.log_room.proofs.filling.zero_entries.Goals as goal

pub loop-entry-preserved : goal.loop-entry-preserved
loop-entry-preserved g c =
    storing_more c.loop-entry.invariant (omega (arith, c.loop-entry-test.true, ap (λ (l : Layout). l.chunk_entries) c.layout_of-entry-end.ensures.row)) c.store.ensures c.entry_at.ensures (none_value c.loop-entry.entry)

pub returns-clause-appends : goal.returns-clause-appends
returns-clause-appends g c = storing_done c.loop-entry.invariant (omega (arith, c.loop-entry-test.false, ap (λ (l : Layout). l.chunk_entries) c.layout_of-entry-end.ensures.row))
