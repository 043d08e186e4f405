use Rattle.trace_crashes.proofs.Stages.{answered_stage}
use Rattle.trace_crashes.proofs.arenas.ArenaSimPmemSimArena.answer.Goals as goal

pub returns : goal.returns
returns c = answered_stage c.args.self.now c.answer.new.arena c.args.call.now c.answer.result c.answer.ensures.call c.answer.ensures.answered
