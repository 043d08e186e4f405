-- What the proofs of this crate cite of the crates below, in one place.
pub use Rattle.pmem_lines.proofs.Words.{word_at-put_same, word_at-put_other, length-put_word}
pub use Rattle.pmem_lines.specs.Pmem.{PmemState, words_of, began}
pub use Rattle.pmem_lines.specs.Words.{put_word, AreZeros, word_at}
pub use Rattle.size_classes.specs.Classes.{class_capacity}
pub use Rattle.pool_layout.proofs.Layouts.{first_row}
pub use Rattle.pool_layout.specs.Header.{version_in, version_field, granules_field, granules_in, fields_of, header_text, header_word, IsHeader}
pub use Rattle.pool_layout.specs.Layout.{layout_of}
pub use Rattle.pool_layout.specs.Places.{heap_word, fields_word, directory_word, entry_slot, text_word, root_word, wal_word}
pub use Rattle.pool_layout.specs.declared.layout.Layout.{Layout}
pub use Rattle.image_tables.specs.Extents.{extent_at}
pub use Rattle.slab_header.specs.declared.state.SlabState.TheVariants.{Normal}
pub use Rattle.book_log.proofs.Fresh.{IsFresh, HasLog-fresh}
pub use Rattle.book_log.proofs.Places.{within_heap}
pub use Rattle.book_log.specs.Log.{with_entry, IsDirectory, logged}
pub use Rattle.heap_check.specs.Formatted.{IsFormatted}
pub use Rattle.attach_steps.specs.Steps.{IsAttachable}
