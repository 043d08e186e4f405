use Rattle.recovery_steps.proofs.Arenas.{roots_lie}
use Rattle.recovery_steps.proofs.names.RootNames.new.Goals as goal

pub open_entry-entry-requires-clause-inside : goal.open_entry-entry-requires-clause-inside
open_entry-entry-requires-clause-inside c = roots_lie c.args.words.now c.requires.image

pub named_starts-requires-clause-inside : goal.named_starts-requires-clause-inside
named_starts-requires-clause-inside c = roots_lie c.args.words.now c.requires.image

pub named_granules-requires-clause-inside : goal.named_granules-requires-clause-inside
named_granules-requires-clause-inside c = roots_lie c.args.words.now c.requires.image
