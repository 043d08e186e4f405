-- What the proofs of this crate cite of the crates below, in one place.
pub use Rattle.std.specs.Vec.{vec_len, vec_capacity}
pub use Rattle.heap_model.specs.Journal.{AllBelow}
pub use Rattle.heap_model.specs.declared.call.Entry.{Entry}
pub use Rattle.arena_core.specs.Arena.{ArenaState}
pub use Rattle.arena_journal.proofs.Journals.{behind_still, behind_none, behind_legal, behind_answered}
pub use Rattle.arena_journal.specs.Journals.{opened, arena_of, IsBehind}
pub use Rattle.arena_lock.specs.Journal.{calls_by, calls_of, owns, Since}
pub use Rattle.arena_lock.specs.Known.{Lock, Known, AllAt, all_numbers, Covers, AllFit, new_seats, Turned, after_loss, after_read}
pub use Rattle.arena_lock.specs.declared.opening.Opening.{Opening}
pub use Rattle.atomic_table.specs.Seated.{TableId}
pub use Rattle.crossbeam_utils.specs.Padded.{padded_value}
