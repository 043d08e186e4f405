-- What the proofs of this crate cite of the crates below, in one place.
pub use Rattle.std.proofs.lemmas.Bool.{cases_eq, eq-eqb, ne_eqb, false_from_ne_true, cond-true, cond-false, and_parts, ltb-true, cases_lt, lt-ltb, and_from}
pub use Rattle.pmem_lines.proofs.States.{then_step}
pub use Rattle.pmem_lines.proofs.Steps.{step_then, step_of}
pub use Rattle.pmem_lines.specs.Pmem.{PmemState, words_of, Appends}
pub use Rattle.pmem_lines.specs.Steps.{IsQuietStep}
pub use Rattle.pmem_lines.specs.Words.{word_at, put_word}
pub use Rattle.pmem_lines.specs.declared.event.Event.{Event}
pub use Rattle.durable_steps.proofs.Steps.{IsQuiet-word, word_crash}
pub use Rattle.durable_steps.specs.Steps.{word_events, IsOldOrNewWord}
pub use Rattle.size_classes.proofs.Spacing.{class_size-least}
pub use Rattle.size_classes.specs.Classes.{class_size, class_capacity}
pub use Rattle.pool_layout.specs.Places.{root_word, wal_word, fields_word}
pub use Rattle.image_tables.proofs.Headers.{IsSameOffHeader-put, is_slab-off_header}
pub use Rattle.image_tables.proofs.Stores.{few_lines, roots_plain, IsOffLog-wal, extent_at-put_root, tables_store_root}
pub use Rattle.image_tables.proofs.Tables.{slab_table, root_table, slab_fields, word_table, number_table}
pub use Rattle.image_tables.proofs.Updates.{put_in-same, put_at-same, put_at-other, put_in-own, put_in-other}
pub use Rattle.image_tables.specs.Forms.{IsWalWord, morphed_kind, IsIndexWord}
pub use Rattle.image_tables.specs.Tables.{Tables, is_slab, tables_of, AreSlabsInHeap, bit_rows, live_rows, held_of, index_word, number_rows}
pub use Rattle.image_tables.specs.Updates.{put_in, put_bit, with_open_entry, HasNoMove, put_at, put_live, with_rows}
pub use Rattle.image_tables.specs.declared.entry.WalEntry.{WalEntry}
pub use Rattle.image_tables.specs.declared.entry.WalEntry.TheVariants.{Place, Move}
pub use Rattle.slab_header.specs.Index.{word_of_index}
pub use Rattle.slab_header.specs.Steps.{PutsBitOver, PutsIndexOver, put_events}
pub use Rattle.slab_header.specs.declared.index.IndexEntry.{IndexEntry}
pub use Rattle.attach_wal.specs.Wal.{Closes, ClosesOrNot, HasNoOther}
pub use Rattle.heap_model.proofs.Slabbing.{LiesIn-block}
pub use Rattle.heap_model.specs.Machine.{Bounds, slab_block, Range, LiesIn}
pub use Rattle.heap_check.proofs.BlockWords.{block_word-header, block_word-heap}
pub use Rattle.heap_check.proofs.Claims.{NamesOnly, NamesOnly-none, NamesOnly-some, plain_size, IsClaim-named, IsClaim-word, IsNamed-claim}
pub use Rattle.heap_check.proofs.Forms.{AreSlabsInHeap-sound, IsFormed-put_bitmap, bounds_of-put_word, IsFormed-put_wal, IsFormed-put_root}
pub use Rattle.heap_check.proofs.Geometry.{one_slab, number_few, is_large-slab, slab_of-here, granules_at-slab, index_count_few, plain_size-some}
pub use Rattle.heap_check.proofs.Loose.{AtMostOne-fewer}
pub use Rattle.heap_check.proofs.OldBlock.{old_in}
pub use Rattle.heap_check.proofs.Sizes.{sizes_of, root_inside}
pub use Rattle.heap_check.proofs.Small.{small_entry, block_in, Holds-unbit, Holds-bit, entry_at-own, is_old-held, cases_bit}
pub use Rattle.heap_check.specs.Heap.{heap, slab_of, is_large, is_old, entry_at, IsClaim, Holds, HoldsBit, HoldsOld, size_at, entry_old, claim_at}
pub use Rattle.heap_check.specs.Image.{bounds_of, IsFormed}
pub use Rattle.heap_check.specs.Sound.{IsInSlab, IsNewEntry, IsOpenPlace, IsSound, LoosensNothing, IsSteady, IsOpen, IsStanding, IsNearlyDone, IsOldEntry, IsOpenMove, IsMorphing, IsValidSlab, IsLeaving, IsDoneSlab, IsHeld}
pub use Rattle.heap_check.specs.State.{IsWordOf}
pub use Rattle.attach_steps.specs.Steps.{entry_for, bit_word, bit_put}
