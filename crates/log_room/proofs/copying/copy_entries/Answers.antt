use Rattle.std.proofs.Common.{◌≡◌, ◌<◌, ◌-◌, ◌∙◌, ap, arith, drop}
use Rattle.log_room.proofs.Common.{Layout, layout_of, entry_slot-high, live_at, live_words}
use Rattle.log_room.proofs.Storing.{storing_more, storing_done, next_value, next_rest}
use Rattle.log_room.proofs.copying.copy_entries.Goals as goal

pub store-requires-clause-place : goal.store-requires-clause-place
store-requires-clause-place g c =
    let below : c.loop-entry.entry < (layout_of c.args.version).chunk_entries = omega (arith, c.loop-entry-test.true, ap (λ (l : Layout). l.chunk_entries) c.layout_of-entry-end.ensures.row) in
    record {
      aligned = omega (arith, c.entry_at.ensures);
      inside = omega (arith, c.entry_at.ensures, entry_slot-high c.args.version c.args.chunk c.loop-entry.entry c.requires.chunk below, c.requires.inside, c.loop-entry.invariant.storing.size);
    }

pub loop-entry-preserved : goal.loop-entry-preserved
loop-entry-preserved g c =
    let entry = c.loop-entry.entry in
    let extents = live_at c.args.log.now in
    let granules = c.args.log.now.granules in
    let live = live_words extents c.args.from (granules - c.args.from) in
    let now = live_words extents c.loop-entry.behind (granules - c.loop-entry.behind) in
    let less : entry < (layout_of c.args.version).chunk_entries = omega (arith, c.loop-entry-test.true, ap (λ (l : Layout). l.chunk_entries) c.layout_of-entry-end.ensures.row) in
    record {
      storing = storing_more c.loop-entry.invariant.storing less c.store.ensures c.entry_at.ensures (next_value live now entry c.next_entry-copied.result.word c.loop-entry.invariant.rest c.next_entry-copied.ensures.word);
      rest = next_rest live now (live_words extents c.next_entry-copied.result.behind (granules - c.next_entry-copied.result.behind)) entry c.loop-entry.invariant.rest c.next_entry-copied.ensures.rest;
    }

pub returns-clause-appends : goal.returns-clause-appends
returns-clause-appends g c = storing_done c.loop-entry.invariant.storing (omega (arith, c.loop-entry-test.false, ap (λ (l : Layout). l.chunk_entries) c.layout_of-entry-end.ensures.row))

pub returns-clause-rest : goal.returns-clause-rest
returns-clause-rest g c =
    let n = (layout_of c.args.version).chunk_entries in
    let row = ap (λ (l : Layout). l.chunk_entries) c.layout_of-entry-end.ensures.row in
    let all : c.loop-entry.entry ≡ n = omega (arith, c.loop-entry-test.false, row, c.loop-entry.auto.entry-end) in
    c.loop-entry.invariant.rest ∙ ap (λ k. drop k (live_words (live_at c.args.log.now) c.args.from (c.args.log.now.granules - c.args.from))) all
