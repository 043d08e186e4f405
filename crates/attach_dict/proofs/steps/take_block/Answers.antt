use Rattle.arena_core.proofs.Replies.{malloc_refused}
use Rattle.attach_dict.proofs.Answered.{refused}
use Rattle.attach_dict.proofs.steps.take_block.Goals as goal

pub returns-in-Err : goal.returns-in-Err
returns-in-Err g c = refused (malloc_refused c.in-Err.field-0) (rw c.bytes_for.ensures at c.in-Err.ensures) c.requires.none c.requires.few
