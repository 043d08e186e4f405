use Rattle.std.proofs.Common.{◌∙◌, ap, sym, take, get_or, ◌∷◌, []}
use Rattle.log_room.proofs.Common.{take_more, words_of, chunk_log}
use Rattle.log_room.specs.Census.{slot_at, slot_behind, slot_over}
use Rattle.log_room.proofs.Telling.{slot_over-append}
use Rattle.log_room.proofs.census.note_log.Goals as goal

pub loop-chunk-preserved : goal.loop-chunk-preserved
loop-chunk-preserved g c = λ start.
    let log = chunk_log c.args.version (words_of (g.P.Pmem.state c.args.device.now)) in
    let active = c.args.active.now in
    let i = c.loop-chunk.chunk-index in
    let chunk = get_or active i 0 in
    let slot = slot_at c.args.slots.now start in
    c.note_chunk.ensures start
    ∙ ap (slot_behind chunk (log chunk) start) (c.loop-chunk.invariant start)
    ∙ sym (ap (λ cs. slot_over log cs start slot) (take_more active i 0 c.loop-chunk-test.true) ∙ slot_over-append log (take i active) (chunk ∷ []) start slot)
