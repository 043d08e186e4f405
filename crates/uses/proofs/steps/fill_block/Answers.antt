use Rattle.arena_core.proofs.Replies.{write_ok}
use Rattle.uses.proofs.Carried.{is_wrote, filled}
use Rattle.uses.proofs.steps.fill_block.Goals as goal

pub unwrap-requires : goal.unwrap-requires
unwrap-requires g c = write_ok c.write.result (is_wrote c.requires c.told-words (rw c.stage.ensures at c.write.ensures))

pub returns : goal.returns
returns g c = filled c.requires c.told-words (rw c.stage.ensures at c.write.ensures)
