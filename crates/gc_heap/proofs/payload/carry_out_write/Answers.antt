use Rattle.std.proofs.Common.{length, subst}
use Rattle.pmem_lines.specs.Pmem.{words_of}
use Rattle.gc_heap.specs.Writing.{IsGcWritable, IsGcWritePlan}
use Rattle.gc_heap.proofs.Writes.{carried_words, carried_none}
use Rattle.gc_heap.proofs.payload.carry_out_write.Goals as goal

pub returns-in-Ok : goal.returns-in-Ok
returns-in-Ok g c = λ root from plan.
    let words = words_of (g.P.Pmem.state c.args.device.now) in
    let may : IsGcWritable words root from (length c.args.words.now) c.in-Ok.at = subst (IsGcWritePlan words root from (length c.args.words.now)) c.in-Ok.is plan in
    carried_words c.requires.exact may c.write_words.ensures.step

pub returns-in-Err : goal.returns-in-Err
returns-in-Err g c = λ root from plan.
    let words = words_of (g.P.Pmem.state c.args.device.now) in
    carried_none c.in-Err.refusal c.requires.exact c.requires.ready (subst (IsGcWritePlan words root from (length c.args.words.now)) c.in-Err.is plan)
