use Rattle.arena_core.proofs.Plans.{placing_large}
use Rattle.arena_core.proofs.plan.large_place.Goals as goal

pub returns-in-Some : goal.returns-in-Some
returns-in-Some c words image index root size asked large count = placing_large index root size c.in-Some.start c.args.granules c.requires c.in-Some.ensures asked large count
