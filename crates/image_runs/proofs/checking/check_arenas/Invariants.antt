use Rattle.image_runs.specs.Checks.{HasLines}
use Rattle.image_runs.proofs.checking.check_arenas.Given as goal

abbrev pub invariant-loop-arena : goal.invariant-loop-arena
invariant-loop-arena l = HasLines l.words l.header.granules l.arena l.text.items
