-- What the proofs of this crate cite of the crates below, in one place.
pub use Rattle.std.proofs.lemmas.Bool.{cases_lt, lt-ltb, le-ltb, cases_eq, eq-eqb, ne_eqb, cond-true, cond-false, cases_Bool, false_from_ne_true, eqb-true}
pub use Rattle.std.proofs.lemmas.List.{take_all, append-nil}
pub use Rattle.pmem_lines.proofs.Images.{reading-append, by_blend, quiet_image, then, weaker, IsQuiet-append}
pub use Rattle.pmem_lines.proofs.States.{appended_append, words_of-appended, then_step, Appends-state}
pub use Rattle.pmem_lines.proofs.Steps.{step_of}
pub use Rattle.pmem_lines.proofs.Words.{length-zeros, AreZeros-zeros, word_at-put_same, word_at-put_other, length-put_word}
pub use Rattle.pmem_lines.specs.Events.{reading, IsQuiet, IsStored, IsImage, CrashOnly, is_flushed}
pub use Rattle.pmem_lines.specs.Pmem.{PmemState, words_of, appended, Appends}
pub use Rattle.pmem_lines.specs.Words.{word_at, put_word}
pub use Rattle.pmem_lines.specs.declared.event.Event.{Event}
pub use Rattle.pmem_lines.specs.declared.event.Event.TheVariants.{Fence, Store}
pub use Rattle.durable_steps.specs.Rows.{stores_at, flushes_of}
pub use Rattle.size_classes.proofs.Spacing.{class_size-rises, class_size-least, class_size-most}
pub use Rattle.size_classes.specs.Classes.{class_size, class_capacity}
pub use Rattle.bit_words.specs.Numbers.{has}
pub use Rattle.pool_layout.specs.Places.{granule_word, blocks_place}
pub use Rattle.image_tables.proofs.Tables.{slab_table}
pub use Rattle.image_tables.specs.Forms.{normal_kind, morphing_kind, IsState, morphed_kind, IsIndexWord, IsStateWord}
pub use Rattle.image_tables.specs.Tables.{bitmap_word, bit_of_word, slab_bit, SlabHeader, is_slab, AreSlabsInHeap, where_slab, index_word, tables_of, state_word, Tables}
pub use Rattle.image_tables.specs.Updates.{put_header}
pub use Rattle.slab_header.specs.Index.{word_of_index}
pub use Rattle.slab_header.specs.Morph.{clear_events, numbers_below, index_stores, index_events, state_events, finish_morph_events, morph_events}
pub use Rattle.slab_header.specs.State.{kind_of, class_of, old_of, entries_of, IsValidState, word_of_state, SaysOfState}
pub use Rattle.slab_header.specs.Steps.{bitmap_words}
pub use Rattle.slab_header.specs.declared.state.SlabState.{SlabState}
pub use Rattle.slab_header.specs.declared.state.SlabState.TheVariants.{Morphing, Normal, Morphed}
pub use Rattle.heap_model.specs.Machine.{Range, AreApart, slab_block}
pub use Rattle.heap_check.proofs.Geometry.{number_few}
pub use Rattle.heap_check.specs.Heap.{HoldsBit, HoldsOld, Holds, is_old, slabs, IsUnusedIn}
pub use Rattle.heap_check.specs.Sound.{IsDoneSlab, IsValidSlab}
