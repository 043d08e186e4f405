use Rattle.std.proofs.Common.{◌∙◌, ap, slice_index_or, true}
use Rattle.log_room.proofs.Common.{words_of, chunk_log, chunks_of}
use Rattle.log_room.specs.Census.{slot_at, slot_over}
use Rattle.log_room.specs.Needless.{first_of}
use Rattle.log_room.proofs.Flushes.{directory_inside}
use Rattle.log_room.proofs.Telling.{table_first}
use Rattle.log_room.proofs.census.first_noted.Goals as goal

pub active_of-active-requires : goal.active_of-active-requires
active_of-active-requires g c = directory_inside _ _ c.requires.log.inside

pub version_of-requires : goal.version_of-requires
version_of-requires g c = directory_inside _ _ c.requires.log.inside

pub returns : goal.returns
returns g c =
    let words = words_of (g.P.Pmem.state c.args.device.now) in
    let active = chunks_of words in
    let log = chunk_log c.version_of.result words in
    let listed = c.as_slice.ensures.value ∙ c.active_of-active.ensures in
    c.first_spare.ensures
    ∙ ap (first_of _) (c.as_slice-2.ensures.value ∙ c.active_of-active.ensures)
    ∙ table_first c.args.granules words active c.version_of.result (slot_at c.note_log.new.slots) (λ chunk. slice_index_or c.needed_chunks-needed.result chunk true) c.version_of.ensures
    (λ start. c.note_log.ensures start ∙ ap (λ chunks. slot_over log chunks start (slot_at c.args.slots.now start)) listed ∙ ap (slot_over log active start) (c.requires.blank start))
    c.requires.log.log.directory.small c.needed_chunks-needed.ensures
