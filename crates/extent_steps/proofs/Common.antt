-- The names that most proofs of an extent's steps cite, of their definitions and of the crates below, passed on from one place. Declares nothing.
pub use Rattle.std.proofs.lemmas.Bool.{cases_eq, cond-false, false_from_ne_true}
pub use Rattle.pmem_lines.specs.Pmem.{words_of}
pub use Rattle.pmem_lines.proofs.Steps.{step_wider}
pub use Rattle.pool_layout.specs.Header.{version_in, granules_in}
pub use Rattle.pool_layout.specs.Layout.{layout_of}
pub use Rattle.image_tables.specs.Extents.{extent_at}
pub use Rattle.image_tables.specs.Tables.{Tables, AreSlabsInHeap, is_slab_of, is_slab, state_field, tables_of, large_of}
pub use Rattle.image_tables.proofs.Stores.{IsSameOffLog, tables_off_log-same, HasNoMove-closed}
pub use Rattle.image_tables.proofs.Tables.{slab_table, slab_fields}
pub use Rattle.book_log.specs.Live.{AreDisjoint}
pub use Rattle.book_log.specs.declared.entry.LogEntry.TheVariants.{Slab, Tomb}
pub use Rattle.heap_model.specs.Machine.{Bounds, Range}
pub use Rattle.heap_check.specs.Heap.{heap}
pub use Rattle.heap_check.specs.Image.{bounds_of, IsFormed}
pub use Rattle.heap_check.specs.Sound.{IsSound, IsSteady}
pub use Rattle.heap_check.specs.State.{IsWordOf, IsEitherHeap}
pub use Rattle.heap_check.proofs.Forms.{AreSlabsInHeap-sound, bounds_of-off_log, IsFormed-off_log, IsFormed-logged}
pub use Rattle.heap_check.proofs.Sizes.{sizes_of}
pub use Rattle.log_steps.specs.Log.{KeepsRest, IsLogged, IsLoggedOrNot}
pub use Rattle.log_steps.proofs.Disjoint.{disjoint_of}
pub use Rattle.log_steps.proofs.Entries.{off_log}
pub use Rattle.extent_steps.specs.Slabs.{KeepsAllButSlab}
pub use Rattle.heap_check.proofs.SlabHeaps.{heap-slab}
pub use Rattle.heap_check.proofs.SlabLogs.{IsSlabMore-logged}
pub use Rattle.heap_check.proofs.Slabs.{IsSlabPlace}
pub use Rattle.pool_layout.specs.Places.{granule_word}
