-- What the proofs of this crate cite of the crates below, in one place.
pub use Rattle.std.proofs.lemmas.Bool.{false≢true, cases_lt, cases_eq}
pub use Rattle.std.proofs.lemmas.List.{append-nil, length-map, get_or-set_same, get_or-set_other, append_assoc}
pub use Rattle.std.proofs.lemmas.List.Elements.{All-get_or, All-head, All-tail, All-push}
pub use Rattle.std.specs.List.{All}
pub use Rattle.std.specs.Result.{IfOk}
pub use Rattle.pmem_lines.specs.Pmem.{words_of}
pub use Rattle.image_tables.specs.Tables.{tables_of}
pub use Rattle.heap_model.specs.Journal.{AllBelow}
pub use Rattle.heap_model.specs.declared.block.Block.{Block}
pub use Rattle.heap_model.specs.declared.call.Call.{Call}
pub use Rattle.heap_model.specs.declared.call.Call.TheVariants.{Malloc}
pub use Rattle.heap_model.specs.declared.call.Entry.{Entry}
pub use Rattle.heap_check.specs.Heap.{heap}
pub use Rattle.arena_core.specs.Arena.{ArenaState}
pub use Rattle.arena_journal.specs.Journals.{opened}
pub use Rattle.arena_lock.specs.Journal.{calls_by}
pub use Rattle.arena_lock.specs.Known.{Lock, Known, after_read}
pub use Rattle.arena_lock.specs.declared.opening.Opening.{Opening}
pub use Rattle.shared_pool.specs.Closed.{is_in, HasAll, AllFitLocks, AllAgree, AllClosed}
pub use Rattle.shared_pool.specs.Passes.{PassState, PoolState, IsPassOf, nobody, part_at, Called, mine_at, first_calls, fresh_pass, fresh_passes, with_part, seen_at}
pub use Rattle.shared_pool.specs.Rows.{each_of}
pub use Rattle.trace_runs.specs.Each.{EachFrom}
pub use Rattle.trace_text.specs.declared.call.TraceCall.{TraceCall}
