-- The names that most proofs of a small block's steps cite, of their definitions and of the crates below, passed on from one place. Declares nothing.
pub use Rattle.pmem_lines.specs.Events.{reading}
pub use Rattle.pmem_lines.specs.Pmem.{PmemState, words_of, Appends}
pub use Rattle.pmem_lines.specs.Steps.{IsQuietStep}
pub use Rattle.pmem_lines.specs.Words.{word_at, put_word}
pub use Rattle.pmem_lines.proofs.States.{then_step}
pub use Rattle.pmem_lines.proofs.Words.{word_at-put_other, length-put_word}
pub use Rattle.durable_steps.specs.Steps.{pair_events, IsOldOrNewPair, word_events}
pub use Rattle.pool_layout.specs.Places.{wal_word, root_word}
pub use Rattle.image_tables.specs.Tables.{Tables, tables_of, index_word}
pub use Rattle.image_tables.specs.Updates.{put_in, HasNoMove}
pub use Rattle.image_tables.specs.declared.entry.WalEntry.{WalEntry}
pub use Rattle.image_tables.proofs.Updates.{put_in-twice, put_in-own}
pub use Rattle.slab_header.specs.Steps.{PutsBitOver, PutsIndexOver}
pub use Rattle.attach_wal.specs.Entry.{entry_word}
pub use Rattle.attach_wal.specs.Wal.{Opens, OpensOrNot, Closes, ClosesOrNot}
pub use Rattle.heap_model.specs.Machine.{Bounds, Range}
pub use Rattle.heap_check.specs.Image.{bounds_of}
pub use Rattle.heap_check.specs.Sound.{IsDoneSlab}
pub use Rattle.heap_check.specs.State.{IsEitherHeap, HaveSameHeap}
pub use Rattle.heap_check.proofs.Geometry.{index_count_few}
pub use Rattle.heap_check.proofs.OneBlock.{IsOneBlock, IsStage}
pub use Rattle.heap_check.proofs.Sizes.{sizes_of}
pub use Rattle.attach_steps.specs.Steps.{entry_for, bit_word, bit_put, under_entry}
pub use Rattle.attach_wal.proofs.Words.{IsWalWord-entry}
pub use Rattle.image_tables.proofs.Tables.{slab_table}
pub use Rattle.size_classes.specs.Classes.{class_size}
