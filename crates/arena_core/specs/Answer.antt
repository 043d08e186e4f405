-- The machine's words for what an arena answers.
use Rattle.std.specs.Prelude.{ℕ, List, nat_lt, if◌then◌else◌, length, slice_index, Result, Ok, Err}
use Rattle.std.specs.Borrow.{Bor}
use Rattle.heap_model.specs.declared.call.Reply.{Reply}
use Rattle.heap_model.specs.declared.call.Reply.TheVariants as replies
use Rattle.arena_core.specs.declared.answer.Placed.{Placed}
use Rattle.arena_core.specs.declared.answer.Freed.{Freed}
use Rattle.arena_core.specs.declared.answer.MallocRefusal.{MallocRefusal}
use Rattle.arena_core.specs.declared.answer.MallocRefusal.TheVariants.{NoRoot, Occupied, ZeroSize, TooLarge, NoSpace}
use Rattle.arena_core.specs.declared.answer.FreeRefusal.{FreeRefusal}
use Rattle.arena_core.specs.declared.answer.FreeRefusal.TheVariants as refusals
use Rattle.arena_core.specs.declared.answer.Moved.{Moved}
use Rattle.arena_core.specs.declared.answer.MoveRefusal.{MoveRefusal}
use Rattle.arena_core.specs.declared.answer.MoveRefusal.TheVariants as moves
use Rattle.arena_core.specs.declared.answer.BlockRefusal.{BlockRefusal}
use Rattle.arena_core.specs.declared.answer.BlockRefusal.TheVariants as blocks

abbrev pub malloc_reply : Result Placed MallocRefusal → Reply
malloc_reply (Ok placed) = replies.Placed placed.at placed.size
malloc_reply (Err NoRoot) = replies.NoRoot
malloc_reply (Err (Occupied at)) = replies.Occupied at
malloc_reply (Err ZeroSize) = replies.ZeroSize
malloc_reply (Err TooLarge) = replies.TooLarge
malloc_reply (Err NoSpace) = replies.NoSpace

abbrev pub free_reply : Result Freed FreeRefusal → Reply
free_reply (Ok freed) = replies.Freed freed.at freed.size
free_reply (Err refusals.NoRoot) = replies.NoRoot
free_reply (Err refusals.Empty) = replies.Empty

abbrev pub move_reply : Result Moved MoveRefusal → Reply
move_reply (Ok moved) = replies.Moved moved.at moved.size
move_reply (Err moves.NoRoot) = replies.NoRoot
move_reply (Err moves.Empty) = replies.Empty
move_reply (Err (moves.Occupied at)) = replies.Occupied at

abbrev pub block_refusal : BlockRefusal → Reply
block_refusal blocks.NoRoot = replies.NoRoot
block_refusal blocks.Empty = replies.Empty
block_refusal blocks.OutOfRange = replies.OutOfRange

abbrev pub write_reply : Result (Unit {0}) BlockRefusal → Reply
write_reply (Ok done) = replies.Wrote
write_reply (Err refusal) = block_refusal refusal

-- the word at an index of the words that a view lends
abbrev pub read_reply : Result (Bor (List ℕ)) BlockRefusal → ℕ → Reply
read_reply (Ok view) index = if nat_lt index (length view.now) then replies.Value (slice_index view.now index) else replies.OutOfRange
read_reply (Err refusal) index = block_refusal refusal
