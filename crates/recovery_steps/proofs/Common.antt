-- What the proofs of this crate cite of the crates below, in one place.
pub use Rattle.std.proofs.lemmas.Bool.{cases_eq, cond-false, false≢true}
pub use Rattle.pmem_lines.proofs.Steps.{step_none, step_then, step_wider, step_end}
pub use Rattle.pmem_lines.specs.Pmem.{PmemState, words_of, appended}
pub use Rattle.pmem_lines.specs.Words.{word_at}
pub use Rattle.pool_layout.proofs.Layouts.{layout_rules}
pub use Rattle.pool_layout.specs.Header.{version_in, granules_in}
pub use Rattle.pool_layout.specs.Layout.{layout_of}
pub use Rattle.image_tables.proofs.Logs.{IsOffLog}
pub use Rattle.image_tables.proofs.Tables.{slab_table, slab_fields}
pub use Rattle.image_tables.specs.Tables.{tables_of, Tables, SlabHeader}
pub use Rattle.image_tables.specs.declared.entry.WalEntry.{WalEntry}
pub use Rattle.image_tables.specs.declared.entry.WalEntry.TheVariants.{Place, Move}
pub use Rattle.book_log.specs.Book.{Book}
pub use Rattle.heap_model.specs.Machine.{Bounds, slab_block}
pub use Rattle.heap_check.proofs.Geometry.{granules_at-slab, granules_at-live, one_slab, index_count_few}
pub use Rattle.heap_check.proofs.Loose.{nearly_done}
pub use Rattle.heap_check.proofs.Sizes.{sizes_of}
pub use Rattle.heap_check.specs.Image.{IsSoundImage, IsSteadyImage, bounds_of}
pub use Rattle.heap_check.specs.Sound.{IsLooseLarge, IsEmptySlab, IsMorphing, IsDoneSlab, LoosensNothing, IsInSlab, IsSound, AtMostOne, IsLeaving, IsNearlyDone, IsOpenMove}
pub use Rattle.image_defects.specs.Least.{HasNone}
pub use Rattle.log_steps.specs.Log.{IsBookOf}
pub use Rattle.settle_steps.proofs.Images.{few_entries, entry_is}
pub use Rattle.settle_steps.proofs.Keeping.{KeepsHeap-then}
pub use Rattle.settle_steps.specs.Entries.{settled_tables, IsEntrySettled, settle_events, settled_word, LiesInSlab}
pub use Rattle.settle_steps.specs.Settled.{KeepsAllButOne, KeepsHeap, IsOpenIn}
pub use Rattle.transition_steps.specs.Transitions.{LeavesHeap, IsFinished, IsEnded, IsEndable, finish_events, end_events}
