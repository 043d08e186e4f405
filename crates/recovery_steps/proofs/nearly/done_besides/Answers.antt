use Rattle.recovery_steps.proofs.Arenas.{roots_lie}
use Rattle.recovery_steps.proofs.nearly.done_besides.Goals as goal

pub open_entry-requires-clause-inside : goal.open_entry-requires-clause-inside
open_entry-requires-clause-inside c = roots_lie c.args.words.now c.requires.image
