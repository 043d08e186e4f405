use Rattle.defect_search.proofs.Marks.{roots_inside}
use Rattle.defect_search.proofs.loose.loose_things.Goals as goal

pub named_starts-requires-clause-inside : goal.named_starts-requires-clause-inside
named_starts-requires-clause-inside c = roots_inside c.args.words.now c.requires.arena

pub named_granules-requires-clause-inside : goal.named_granules-requires-clause-inside
named_granules-requires-clause-inside c = roots_inside c.args.words.now c.requires.arena
