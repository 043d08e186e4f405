-- What the proofs of this crate cite of the crates below, in one place.
pub use Rattle.std.proofs.lemmas.Bool.{false≢true}
pub use Rattle.std.proofs.lemmas.List.{append-nil, length-map}
pub use Rattle.std.specs.Vec.{vec_len, vec_capacity}
pub use Rattle.heap_model.specs.declared.call.Entry.{Entry}
pub use Rattle.arena_core.specs.Arena.{ArenaState}
pub use Rattle.arena_lock.specs.Known.{Lock, Known}
pub use Rattle.arena_lock.specs.declared.opening.Opening.{Opening}
pub use Rattle.atomic_table.specs.Seated.{TableId}
pub use Rattle.crossbeam_queue.specs.Passes.{view, Pass, IsSamePass}
pub use Rattle.shared_pool.specs.Closed.{is_in, HasAll, AllAgree, IsClosed, AllClosed, AllFitLocks}
pub use Rattle.shared_pool.specs.Passes.{PassState, part_at, seen_at, mine_at, PoolState, IsPassOf, nobody, first_calls, Called, fresh_pass, fresh_passes}
pub use Rattle.shared_pool.specs.Rows.{AllRoom, each_of}
