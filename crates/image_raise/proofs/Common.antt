-- What the proofs of this crate cite of the crates below, in one place.
pub use Rattle.std.proofs.lemmas.Bool.{cases_eq, eq-eqb, ne_eqb, cond-true, cond-false, cases_lt, cases_Bool, and_parts}
pub use Rattle.std.specs.List.{All}
pub use Rattle.pmem_lines.proofs.Words.{length-put_word, word_at-put_same, word_at-put_other}
pub use Rattle.pmem_lines.specs.Words.{word_at, AreZeros, put_word}
pub use Rattle.pool_layout.proofs.Headers.{header_fits}
pub use Rattle.pool_layout.proofs.Layouts.{first_row, second_row, second_version, layout_rules}
pub use Rattle.pool_layout.specs.Header.{version_in, granules_in, fields_of, IsPoolHeader, IsHeader, header_text, header_word}
pub use Rattle.pool_layout.specs.Layout.{layout_of}
pub use Rattle.pool_layout.specs.Places.{directory_word, entry_slot, text_word, fields_word, root_word, wal_word, log_start, heap_word, granule_word, line_place}
pub use Rattle.pool_layout.specs.declared.header.PoolHeader.{PoolHeader}
pub use Rattle.pool_layout.specs.declared.layout.Layout.{Layout}
pub use Rattle.image_tables.proofs.Places.{entry_slot-low, entry_slot-high, entry_slot-same, log_start-low}
pub use Rattle.image_tables.specs.Extents.{start_of_entry, extent_of_entry, extent_after, extent_behind, extent_at}
pub use Rattle.image_tables.specs.Tables.{SlabHeader, Tables, tables_of, wal_lines}
pub use Rattle.heap_model.specs.Machine.{Bounds}
pub use Rattle.heap_check.proofs.Sizes.{sizes_of}
pub use Rattle.heap_check.specs.Heap.{heap, entry_at, slabs}
pub use Rattle.heap_check.specs.Image.{bounds_of, IsExactImage, header_in, HasSlabHeader, IsFormed}
