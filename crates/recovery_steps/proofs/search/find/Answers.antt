use Rattle.std.proofs.Common.{arith}
use Rattle.recovery_steps.proofs.Arenas.{loose_inside}
use Rattle.recovery_steps.proofs.search.find.Goals as goal

pub returns : goal.returns
returns c = record { none = λ start loose. c.loop-start.invariant start (omega (arith, loose_inside c.args.words.now c.requires.image c.args.kind start loose, c.requires.book.granules)) loose }
