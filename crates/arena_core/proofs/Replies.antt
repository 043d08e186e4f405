-- Replies and answers: a call that has a reply of success answered `Ok`, and a refusal of one is no success.
use Rattle.std.proofs.Common.{◌≡◌, ◌≢◌, ℕ, List, Result, Ok, Err, IsOk, refl}
use Rattle.heap_model.specs.declared.call.Reply.TheVariants as replies
use Rattle.arena_core.specs.declared.answer.Freed.{Freed}
use Rattle.arena_core.specs.declared.answer.Moved.{Moved}
use Rattle.arena_core.specs.declared.answer.MallocRefusal.{MallocRefusal}
use Rattle.arena_core.specs.declared.answer.MallocRefusal.TheVariants as mallocs
use Rattle.arena_core.specs.declared.answer.FreeRefusal.{FreeRefusal}
use Rattle.arena_core.specs.declared.answer.FreeRefusal.TheVariants as frees
use Rattle.arena_core.specs.declared.answer.MoveRefusal.{MoveRefusal}
use Rattle.arena_core.specs.declared.answer.MoveRefusal.TheVariants as moves
use Rattle.arena_core.specs.declared.answer.BlockRefusal.{BlockRefusal}
use Rattle.arena_core.specs.declared.answer.BlockRefusal.TheVariants as blocks
use Rattle.arena_core.specs.Answer.{malloc_reply, free_reply, move_reply, block_refusal, write_reply}
use Rattle.arena_core.specs.Payload.{IsWrittenBy, HasWritten}

pub malloc_refused : (refusal : MallocRefusal) (at size : ℕ) → malloc_reply (Err refusal) ≢ replies.Placed at size
malloc_refused mallocs.NoRoot at size is = cc is
malloc_refused (mallocs.Occupied other) at size is = cc is
malloc_refused mallocs.ZeroSize at size is = cc is
malloc_refused mallocs.TooLarge at size is = cc is
malloc_refused mallocs.NoSpace at size is = cc is

pub free_ok : (result : Result Freed FreeRefusal) (at size : ℕ) → free_reply result ≡ replies.Freed at size → IsOk result
free_ok (Ok freed) at size is = refl
free_ok (Err frees.NoRoot) at size is = absurd (cc is)
free_ok (Err frees.Empty) at size is = absurd (cc is)

pub move_ok : (result : Result Moved MoveRefusal) (at size : ℕ) → move_reply result ≡ replies.Moved at size → IsOk result
move_ok (Ok moved) at size is = refl
move_ok (Err moves.NoRoot) at size is = absurd (cc is)
move_ok (Err moves.Empty) at size is = absurd (cc is)
move_ok (Err (moves.Occupied other)) at size is = absurd (cc is)

not_wrote : (refusal : BlockRefusal) → block_refusal refusal ≢ replies.Wrote
not_wrote blocks.NoRoot is = cc is
not_wrote blocks.Empty is = cc is
not_wrote blocks.OutOfRange is = cc is

pub write_ok : (result : Result (Unit {0}) BlockRefusal) → write_reply result ≡ replies.Wrote → IsOk result
write_ok (Ok done) is = refl
write_ok (Err refusal) is = absurd (not_wrote refusal is)

-- a write that was done wrote the words
pub written_ok : (old : List ℕ) (root from : ℕ) (words new : List ℕ) (result : Result (Unit {0}) BlockRefusal) → write_reply result ≡ replies.Wrote → IsWrittenBy old root from words new result → HasWritten old root from words new
written_ok old root from words new (Ok done) is written = written
written_ok old root from words new (Err refusal) is written = absurd (not_wrote refusal is)
