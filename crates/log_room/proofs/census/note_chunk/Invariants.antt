use Rattle.std.proofs.Common.{◌≡◌, ℕ}
use Rattle.log_room.proofs.Common.{word_at, words_of, entry_slot, entries_below}
use Rattle.log_room.specs.Census.{slot_at, slot_behind}
use Rattle.log_room.proofs.census.note_chunk.Given as goal

abbrev pub invariant-loop-entry : goal.invariant-loop-entry
invariant-loop-entry g l =
    let words = words_of (g.P.Pmem.state l.device) in
    (start : ℕ) → slot_at l.slots start ≡ slot_behind l.chunk (entries_below (λ entry. word_at words (entry_slot l.version l.chunk entry)) l.entry) start (slot_at l.fn.slots start)
