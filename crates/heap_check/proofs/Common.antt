-- What the proofs of this crate cite of the crates below, in one place.
pub use Rattle.std.proofs.lemmas.Bool.{cases_Bool, cases_eq, cases_lt, eqb-true, cond-true, cond-false, ne_eqb, false_from_ne_true, and_parts, ltb-true, false≢true, eq-eqb, lt-ltb, and_from, and_left}
pub use Rattle.pmem_lines.proofs.Words.{word_at-put_same, word_at-put_other, length-put_word}
pub use Rattle.pmem_lines.specs.Words.{word_at, put_word}
pub use Rattle.size_classes.proofs.Spacing.{class_size-most, class_size-least, class_size-rises}
pub use Rattle.size_classes.specs.Classes.{class_size, class_capacity}
pub use Rattle.pool_layout.specs.Header.{version_in, granules_in, fields_of, IsHeader, version_field, granules_field}
pub use Rattle.pool_layout.specs.Layout.{layout_of}
pub use Rattle.pool_layout.specs.Places.{entry_slot, root_word, wal_word, text_word, fields_word, heap_word, granule_word, blocks_place}
pub use Rattle.image_tables.proofs.Headers.{IsSameOffHeader-put, SameLog-off_header, is_slab-off_header}
pub use Rattle.image_tables.proofs.Places.{log_start-low, entry_slot-high}
pub use Rattle.image_tables.proofs.Stores.{IsSameOffLog, text-off_log, fields-off_log, wal_word-off_log, heap_word-off_log, state_word-high, index_word-high, IsOffLog-root, fields-put_root, wal_word-put_root, heap_word-put_root, extent_at-put_root, wal_word-low, log_start-high, IsOffLog-wal, state_field-same, version_in-put_root, tables_put_root, roots_plain, roots-same, entry_among-same, slab_header-same, tables_by, root_word-low, version_in-off_log, root_word-off_log, slab_header-heap}
pub use Rattle.image_tables.proofs.Tables.{root_table-past, root_table-none, slab_table, large_table, slab_fields}
pub use Rattle.image_tables.proofs.Updates.{put_at-other, put_at-same, put_at-twice, put_at-own, put_in-same, put_in-other}
pub use Rattle.image_tables.specs.Extents.{extent_at}
pub use Rattle.image_tables.specs.Forms.{IsWalWord, IsIndexWord, normal_kind, morphed_kind, morphing_kind, IsState, HasStateBits, IsStateWord}
pub use Rattle.image_tables.specs.Tables.{Tables, tables_of, large_of, is_slab_of, is_slab, AreSlabsInHeap, state_word, index_word, state_field, SlabHeader, bit_rows, live_rows, number_rows}
pub use Rattle.image_tables.specs.Updates.{put_at, with_root, HasNoMove, put_in, put_live, with_old, with_rows, put_bit, with_small}
pub use Rattle.image_tables.specs.declared.entry.WalEntry.{WalEntry}
pub use Rattle.image_tables.specs.declared.entry.WalEntry.TheVariants.{Place}
pub use Rattle.image_tables.specs.declared.extent.Extent.{Extent}
pub use Rattle.image_tables.specs.declared.extent.Extent.TheVariants.{Slab}
pub use Rattle.book_log.proofs.Books.{HasLog-same}
pub use Rattle.book_log.specs.Book.{HasLog, chunks_of}
pub use Rattle.heap_model.proofs.Slabbing.{LiesIn-block, one_number}
pub use Rattle.heap_model.specs.Below.{any_below}
pub use Rattle.heap_model.specs.Machine.{Bounds, Range, Machine, IsLarge, LiesIn, IsOverlapFree, no_heap, slab_block, AreApart, with_key, IsUnused, IsFreeGranule}
