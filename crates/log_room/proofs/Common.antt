-- What the proofs of this crate cite of the crates below, in one place.
pub use Rattle.std.proofs.lemmas.Bool.{cases_eq, cases_lt, cases_Bool, lt-ltb, le-ltb, eq-eqb, ne_eqb, not-true, not_from_false, eqb-false, cond-true, or_parts, or_cases, eqb-true, cond-false, or_left, or_right, or_from, ltb-true, both_ways, and_parts}
pub use Rattle.std.proofs.lemmas.List.{length-take, length-take-le, get_or-take, take-append-drop, take_all, get_or_past, get_or-drop, drop-drop, get_or-replicate, length-replicate, take_more, drop_all}
pub use Rattle.std.proofs.lemmas.List.Elements.{All-nil, All-cons, All-append, All-head, All-tail, All-weaker, All-filter, All-take, filter_passes, All-drop, All-get_or, filter-append, All-contains, All-contains_itself, All-push}
pub use Rattle.std.proofs.lemmas.List.Kept.{AllPairs-filter, AllPairs-cons}
pub use Rattle.std.proofs.lemmas.Nat.{div_below, mul-le, mod_below, div-add-mod'}
pub use Rattle.std.specs.List.{All, AllPairs, Contains, list_any}
pub use Rattle.pmem_lines.proofs.Images.{IsQuiet-append, by_none, length-reading, reading-append, by_blend, then, weaker}
pub use Rattle.pmem_lines.proofs.States.{appended_none, Appends-state, appended_append, then_step}
pub use Rattle.pmem_lines.proofs.Words.{word_at-put_other, word_at-put_same, length-put_word}
pub use Rattle.pmem_lines.specs.Events.{reading, IsQuiet, IsStored, is_flushed, is_fenced, CrashOnly}
pub use Rattle.pmem_lines.specs.Pmem.{PmemState, words_of, Appends, appended, HasRoom}
pub use Rattle.pmem_lines.specs.Words.{word_at, put_word}
pub use Rattle.pmem_lines.specs.declared.event.Event.{Event}
pub use Rattle.pmem_lines.specs.declared.event.Event.TheVariants.{Store, Flush, Fence}
pub use Rattle.durable_steps.specs.Rows.{flushes_of}
pub use Rattle.pool_layout.proofs.Layouts.{layout_rules}
pub use Rattle.pool_layout.specs.Header.{version_in, version_field}
pub use Rattle.pool_layout.specs.Layout.{layout_of}
pub use Rattle.pool_layout.specs.Places.{heap_word, chunk_word, entry_lines, entry_slot, fields_word, directory_word, log_start}
pub use Rattle.pool_layout.specs.declared.layout.Layout.{Layout}
pub use Rattle.image_tables.proofs.Extents.{extent_behind-append, extent_after-named, extent_after-other, extent_at-same, extent_at-directory}
pub use Rattle.image_tables.proofs.Places.{entry_slot-same, entry_slot-high, log_start-low, entry_slot-low}
pub use Rattle.image_tables.specs.Extents.{extent_behind, extent_at, start_of_entry, extent_of_entry, extent_after}
pub use Rattle.image_tables.specs.Log.{most_chunks, entry_or_none, entries_below, chunk_log, active_chunks}
pub use Rattle.image_tables.specs.declared.extent.Extent.{Extent}
pub use Rattle.book_log.proofs.Directories.{eight, active_chunks-directory}
pub use Rattle.book_log.proofs.LiveExtents.{IsValid, says_of, live_extents, live_over, extent_at-active}
pub use Rattle.book_log.specs.Book.{Book, HasLog, HasFreeEntry, Reads, live_at, chunks_of, AreWithin, last_chunk, IsNextOf}
pub use Rattle.book_log.specs.Entry.{log_word, FitsWord, IsInHeap, start_of, extent_of, IsEntryWord, SaysOf}
pub use Rattle.book_log.specs.Live.{live_word, live_words, AreDisjoint, IsLive, AreLive, granules_of}
pub use Rattle.book_log.specs.Log.{IsChunk, directory_of, logged, IsDirectory, IsLog}
pub use Rattle.book_log.specs.declared.entry.LogEntry.{LogEntry}
pub use Rattle.book_log.specs.declared.entry.LogEntry.TheVariants.{Large, Slab}
