use Rattle.std.proofs.Common.{◌≡◌, ℕ, take}
use Rattle.log_room.proofs.Common.{words_of, chunk_log}
use Rattle.log_room.specs.Census.{slot_at, slot_over}
use Rattle.log_room.proofs.census.note_log.Given as goal

abbrev pub invariant-loop-chunk : goal.invariant-loop-chunk
invariant-loop-chunk g l =
    (start : ℕ) → slot_at l.slots start ≡ slot_over (chunk_log l.version (words_of (g.P.Pmem.state l.device))) (take l.chunk-index l.active) start (slot_at l.fn.slots start)
