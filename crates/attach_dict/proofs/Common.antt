-- What the proofs of this crate cite of the crates below, in one place.
pub use Rattle.std.proofs.lemmas.Bool.{cases_eq, cases_lt, cond-true, cond-false, eq-eqb, ne_eqb}
pub use Rattle.std.proofs.lemmas.List.{length-replicate, length-set, get_or-set_same, get_or-set_other, with_items_is}
pub use Rattle.std.specs.List.{AllPairs, Contains}
pub use Rattle.pmem_lines.proofs.Words.{length-words_at, get_or-words_at}
pub use Rattle.pmem_lines.specs.Pmem.{words_of, PmemState}
pub use Rattle.pmem_lines.specs.Words.{word_at, words_at}
pub use Rattle.bit_words.specs.Numbers.{has, IsPut, HasNoneIn, IsLeastIn}
pub use Rattle.dict_index.specs.KeyRoots.{KeyRoots, IsKeyed, LacksKey, LacksRoot, IsKeyMap, HasMore, HasReplaced, HasLess}
pub use Rattle.dict_index.specs.declared.key_map.Keyed.{Keyed}
pub use Rattle.dict_index.specs.Numbers.{IsGreatest as IsGreatestOf}
pub use Rattle.pool_layout.proofs.Layouts.{layout_rules}
pub use Rattle.pool_layout.specs.Header.{version_in}
pub use Rattle.image_tables.specs.Tables.{tables_of}
pub use Rattle.heap_model.specs.Machine.{Bounds, Range}
pub use Rattle.heap_check.specs.Heap.{heap}
pub use Rattle.heap_check.specs.Image.{bounds_of, IsExactImage}
pub use Rattle.heap_check.specs.State.{IsEitherHeap, HaveSameHeap, IsWordOf, KeepsBlocks}
pub use Rattle.image_defects.proofs.Counts.{none_below, some_below}
pub use Rattle.image_defects.specs.Count.{IsCount}
pub use Rattle.image_defects.specs.Least.{IsLeastOf}
pub use Rattle.arena_core.proofs.Callers.{KeepsOthers, left_others, IsGiven, given, no_space, IsLost, lost, passed, wrote, same_word, left_word, exact_steady, rooted, state_in, has_state, root_place, one_range, IsPassed}
pub use Rattle.arena_core.proofs.Replies.{written_ok, write_ok}
pub use Rattle.arena_core.specs.Answered.{IsAnswered, IsMoveAnswered, IsWriteAnswered, IsOneCall}
pub use Rattle.arena_core.specs.Arena.{ArenaState}
pub use Rattle.arena_core.specs.Call.{IsReady}
pub use Rattle.arena_core.specs.Payload.{HasWritten, IsEitherWords, AreWordsOf, IsViewOf}
pub use Rattle.arena_core.specs.declared.answer.BlockRefusal.{BlockRefusal}
