use Rattle.recovery_steps.proofs.Arenas.{roots_lie}
use Rattle.recovery_steps.proofs.nearly.is_leaving.Goals as goal

pub held_root-requires-clause-inside : goal.held_root-requires-clause-inside
held_root-requires-clause-inside c = roots_lie c.args.words.now c.requires.image
