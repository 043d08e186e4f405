use Rattle.arena_core.proofs.Replies.{move_ok}
use Rattle.attach_dict.proofs.Answered.{is_moved, shown}
use Rattle.attach_dict.proofs.steps.show_block.Goals as goal

pub unwrap-requires : goal.unwrap-requires
unwrap-requires g c = move_ok c.move_to.result _ _ (is_moved c.requires.block c.requires.root c.requires.none c.move_to.ensures)

pub returns : goal.returns
returns g c = shown c.requires.block c.requires.root c.requires.none c.move_to.ensures
