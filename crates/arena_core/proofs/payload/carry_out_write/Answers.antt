use Rattle.std.proofs.Common.{length, subst}
use Rattle.arena_core.proofs.Common.{words_of, IsWritable, IsWritePlan}
use Rattle.arena_core.proofs.PayloadCalls.{carried_words, carried_none}
use Rattle.arena_core.proofs.payload.carry_out_write.Goals as goal

pub returns-in-Ok : goal.returns-in-Ok
returns-in-Ok g c = λ root from plan.
    let words = words_of (g.P.Pmem.state c.args.device.now) in
    let may : IsWritable words root from (length c.args.words.now) c.in-Ok.at = subst (IsWritePlan words root from (length c.args.words.now)) c.in-Ok.is plan in
    carried_words c.requires.exact may c.write_words.ensures.step c.requires.ready

pub returns-in-Err : goal.returns-in-Err
returns-in-Err g c = λ root from plan.
    let words = words_of (g.P.Pmem.state c.args.device.now) in
    carried_none c.in-Err.refusal c.requires.exact c.requires.ready (subst (IsWritePlan words root from (length c.args.words.now)) c.in-Err.is plan)
