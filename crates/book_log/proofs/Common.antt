-- What the proofs of this crate cite of the crates below, in one place.
pub use Rattle.std.proofs.lemmas.Bool.{cases_eq, cases_lt, eq-eqb, ne_eqb, cond-true, cond-false, lt-ltb, le-leb}
pub use Rattle.std.proofs.lemmas.Grind.{common_steps}
pub use Rattle.std.proofs.lemmas.List.{take_all, take_more}
pub use Rattle.std.proofs.lemmas.List.Elements.{All-push, All-head, All-tail, All-nil, All-cons, All-append}
pub use Rattle.std.specs.List.{All, AllPairs}
pub use Rattle.pmem_lines.proofs.Words.{word_at-put_same, length-put_word, word_at-put_other}
pub use Rattle.pmem_lines.specs.Pmem.{PmemState, words_of, IsPlace}
pub use Rattle.pmem_lines.specs.Words.{word_at, put_word}
pub use Rattle.pool_layout.specs.Header.{version_field, version_in}
pub use Rattle.pool_layout.specs.Layout.{layout_of}
pub use Rattle.pool_layout.specs.Places.{directory_word, entry_slot, chunk_word, heap_word, fields_word}
pub use Rattle.image_tables.proofs.Extents.{extent_at-appended, extent_after-named, extent_after-other, extent_at-same, extent_behind-append}
pub use Rattle.image_tables.specs.Extents.{extent_at, extent_behind}
pub use Rattle.image_tables.specs.Log.{active_chunks, most_chunks, chunks_named, entries_below, chunk_log}
pub use Rattle.image_tables.specs.declared.extent.Extent.{Extent}
