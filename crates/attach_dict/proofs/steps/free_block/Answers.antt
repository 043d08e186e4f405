use Rattle.arena_core.proofs.Replies.{free_ok}
use Rattle.attach_dict.proofs.Answered.{is_freed, freed}
use Rattle.attach_dict.proofs.steps.free_block.Goals as goal

pub unwrap-requires : goal.unwrap-requires
unwrap-requires g c = free_ok c.free_from.result _ _ (is_freed c.requires c.free_from.ensures)

pub returns : goal.returns
returns g c = freed c.requires c.free_from.ensures
