use Rattle.gc_crashes.proofs.Stages.{answered_stage}
use Rattle.gc_crashes.proofs.arenas.GcSimArenaSimArena.answer.Goals as goal

pub returns : goal.returns
returns c = answered_stage c.args.self.now.0 c.answer.new.arena c.args.call.now c.answer.result c.answer.ensures.call c.answer.ensures.answered
