-- What the proofs of this crate cite of the crates below, in one place.
pub use Rattle.std.proofs.lemmas.Bool.{false≢true, cases_lt}
pub use Rattle.std.proofs.lemmas.List.{append-nil, length-map, get_or-set_same, get_or-set_other}
pub use Rattle.std.specs.List.{All}
pub use Rattle.std.specs.Result.{IfOk}
pub use Rattle.heap_model.specs.declared.call.Call.{Call}
pub use Rattle.heap_model.specs.declared.call.Call.TheVariants.{Malloc}
pub use Rattle.heap_model.specs.declared.call.Entry.{Entry}
pub use Rattle.arena_core.specs.Arena.{ArenaState}
pub use Rattle.arena_lock.specs.Journal.{Each, calls_by}
pub use Rattle.arena_lock.specs.Known.{Lock, Known}
pub use Rattle.arena_lock.specs.declared.opening.Opening.{Opening}
pub use Rattle.arena_journal.specs.Journals.{opened, IsBehind}
pub use Rattle.shared_pool.specs.Closed.{is_in, HasAll}
pub use Rattle.shared_pool.specs.Passes.{PassState, nobody, part_at, with_part, Called, Refused}
pub use Rattle.shared_pool.specs.Rows.{each_of}
pub use Rattle.trace_text.specs.declared.call.TraceCall.{TraceCall}
pub use Rattle.trace_runs.specs.Answers.{by_owner, asked, calls_in, AnswersThreads, AllAnswer}
pub use Rattle.trace_runs.specs.Calls.{calls_of}
pub use Rattle.trace_runs.specs.Each.{EachFrom}
pub use Rattle.trace_runs.specs.Threads.{AllIn, AllBy}
pub use Rattle.arena_server.specs.declared.request.Request.{Request}
pub use Rattle.arena_server.specs.Requests.{of, AllOfSenders}
pub use Rattle.arena_server.specs.Senders.{Line, SenderState, nowhere, line_at, sent_at, after_sending, numbers}
pub use Rattle.arena_server.specs.Owners.{OwnerState, made}
pub use Rattle.arena_server.specs.Servers.{ServerState, IsSenderOf, IsOwnerOf, HasServedOne, HoldsOne, HasSkipped}
pub use Rattle.serve_runs.specs.declared.clerk.Clerk.{Clerk}
