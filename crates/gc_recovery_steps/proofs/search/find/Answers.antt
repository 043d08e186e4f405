use Rattle.std.proofs.Common.{arith}
use Rattle.gc_recovery_steps.proofs.Kept.{loose_inside}
use Rattle.gc_recovery_steps.proofs.search.find.Goals as goal

pub returns : goal.returns
returns c = record { none = λ start loose. c.loop-start.invariant start (omega (arith, loose_inside c.args.words.now c.args.log.now c.requires.read c.args.kind start loose, c.requires.read.granules)) loose }
