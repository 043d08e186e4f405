use Rattle.arena_core.proofs.Replies.{move_ok}
use Rattle.uses.proofs.Carried.{moved, shown}
use Rattle.uses.proofs.steps.show_block.Goals as goal

pub unwrap-requires : goal.unwrap-requires
unwrap-requires g c = move_ok c.move_to.result _ _ (moved c.requires.root c.requires.block c.requires.none (rw c.stage.ensures at c.move_to.ensures))

pub returns : goal.returns
returns g c = shown c.requires.root c.requires.block c.requires.none (rw c.stage.ensures at c.move_to.ensures)
