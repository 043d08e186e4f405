use Rattle.arena_core.proofs.Replies.{free_ok}
use Rattle.uses.proofs.Carried.{freed, released}
use Rattle.uses.proofs.steps.release_block.Goals as goal

pub unwrap-requires : goal.unwrap-requires
unwrap-requires g c = free_ok c.free_from.result _ _ (freed c.requires c.free_from.ensures)

pub returns : goal.returns
returns g c = released c.requires c.free_from.ensures
