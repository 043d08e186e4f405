-- What the proofs of this crate cite of the crates below, in one place.
pub use Rattle.std.proofs.lemmas.Bool.{cases_lt}
pub use Rattle.std.proofs.lemmas.List.{get_or_append_left, get_or_push, length_push, take_more, take_all}
pub use Rattle.pmem_lines.specs.Pmem.{words_of, PmemState}
pub use Rattle.pmem_lines.specs.Words.{word_at}
pub use Rattle.pmem_lines.specs.declared.event.Event.{Event}
pub use Rattle.image_tables.specs.Tables.{tables_of}
pub use Rattle.heap_model.specs.Machine.{Range}
pub use Rattle.heap_check.specs.Heap.{heap}
pub use Rattle.heap_check.specs.Image.{IsExactImage}
pub use Rattle.heap_check.specs.State.{IsEitherHeap, HaveSameHeap, KeepsBlocks, IsWordOf}
pub use Rattle.arena_core.proofs.Callers.{given, lacking, no_space, lost, passed, wrote, exact_steady, one_range, root_place, leaves, same_word, left_word}
pub use Rattle.arena_core.proofs.Replies.{written_ok}
pub use Rattle.arena_core.specs.Answered.{IsOneCall, IsAnswered, IsMoveAnswered, IsWriteAnswered}
pub use Rattle.arena_core.specs.Arena.{ArenaState}
pub use Rattle.arena_core.specs.Events.{call_events, line_after}
pub use Rattle.arena_core.specs.Payload.{payload_events, IsEitherWords, HasWritten, AreWordsOf, IsViewOf}
pub use Rattle.arena_core.specs.declared.answer.BlockRefusal.{BlockRefusal}
pub use Rattle.move_steps.specs.Moves.{IsEitherMoved}
pub use Rattle.recover.specs.Recovered.{IsRecovered}
