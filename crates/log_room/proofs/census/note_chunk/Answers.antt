use Rattle.std.proofs.Common.{◌≡◌, ◌/◌, ◌∙◌, ap, arith}
use Rattle.log_room.proofs.Common.{word_at, words_of, Layout, layout_of, entry_slot}
use Rattle.image_tables.specs.Log.{entry_or_none, entries_below, chunk_log}
use Rattle.log_room.specs.Census.{slot_at, slot_behind}
use Rattle.log_room.proofs.Telling.{slot_next}
use Rattle.log_room.proofs.census.note_chunk.Goals as goal

pub loop-entry-preserved : goal.loop-entry-preserved
loop-entry-preserved g c = λ start.
    let words = words_of (g.P.Pmem.state c.args.device.now) in
    let version = c.args.version in
    let chunk = c.args.chunk in
    let entry = c.loop-entry.entry in
    let here : c.entry_at.result / 8 ≡ entry_slot version chunk entry = omega (arith, c.entry_at.ensures) in
    let word : c.load-word.result ≡ word_at words (entry_slot version chunk entry) = c.load-word.ensures ∙ ap (word_at words) here in
    slot_next chunk (λ e. word_at words (entry_slot version chunk e)) entry start (slot_at c.args.slots.now start) (slot_at c.loop-entry.slots start) (slot_at c.note_word.new.slots start)
    (c.loop-entry.invariant start) (c.note_word.ensures start ∙ ap (λ w. slot_behind chunk (entry_or_none w) start (slot_at c.loop-entry.slots start)) word)

pub returns : goal.returns
unfolding chunk_log
returns g c = λ start.
    let words = words_of (g.P.Pmem.state c.args.device.now) in
    let version = c.args.version in
    let chunk = c.args.chunk in
    let all : c.loop-entry.entry ≡ (layout_of version).chunk_entries = omega (arith, c.loop-entry-test.false, c.loop-entry.auto.entry-end, ap (λ (l : Layout). l.chunk_entries) c.layout_of-layout.ensures.row) in
    c.loop-entry.invariant start ∙ ap (λ n. slot_behind chunk (entries_below (λ e. word_at words (entry_slot version chunk e)) n) start (slot_at c.args.slots.now start)) all
