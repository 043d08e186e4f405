-- What the proofs of this crate cite of the crates below, in one place.
pub use Rattle.std.proofs.lemmas.Bool.{cases_lt, cond-true, cond-false, eq-eqb, ne_eqb, cases_eq, lt-ltb, le-ltb, le-leb, lt-leb, and_from, and_left, and_right}
pub use Rattle.std.proofs.lemmas.List.{take_all}
pub use Rattle.pmem_lines.specs.Pmem.{PmemState, words_of}
pub use Rattle.pmem_lines.specs.Words.{word_at}
pub use Rattle.pool_layout.specs.Header.{version_in, granules_in}
pub use Rattle.pool_layout.specs.Layout.{layout_of, IsLayout}
pub use Rattle.pool_layout.specs.Places.{root_word}
pub use Rattle.pool_layout.specs.declared.header.PoolHeader.{PoolHeader}
pub use Rattle.image_tables.specs.Tables.{tables_of}
pub use Rattle.heap_model.specs.Machine.{Bounds, Range, Machine, with_key, no_heap}
pub use Rattle.heap_model.specs.Placement.{bare}
pub use Rattle.heap_model.specs.Step.{root_of, IsWrite, IsMove, IsStep}
pub use Rattle.heap_model.specs.declared.call.Call.{Call}
pub use Rattle.heap_model.specs.declared.call.Call.TheVariants.{Malloc, Free, Write, Read, Move}
pub use Rattle.heap_model.specs.declared.call.Entry.{Entry}
pub use Rattle.heap_model.specs.declared.call.Reply.{Reply}
pub use Rattle.heap_check.specs.Heap.{heap, slabs, size_at}
pub use Rattle.heap_check.specs.Image.{bounds_of, IsFormed}
pub use Rattle.arena_core.specs.Arena.{ArenaState}
pub use Rattle.arena_core.specs.Events.{call_events}
pub use Rattle.arena_journal.specs.Journals.{begins_call}
pub use Rattle.trace_runs.specs.Arenas.{formatted, bounds_for, IsNewArena, header_for}
pub use Rattle.trace_runs.specs.Calls.{calls_of}
pub use Rattle.trace_runs.specs.Runs.{Stage, IsRunOf, IsRun, total_events}
pub use Rattle.trace_text.specs.declared.call.CrashSide.{CrashSide}
pub use Rattle.trace_text.specs.declared.call.CrashSide.TheVariants.{Same}
pub use Rattle.trace_text.specs.declared.call.TraceCall.{TraceCall}
