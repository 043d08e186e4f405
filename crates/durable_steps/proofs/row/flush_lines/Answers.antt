use Rattle.std.proofs.Common.{arith}
use Rattle.std.proofs.lemmas.Grind.{common_steps}
use Rattle.pmem_lines.proofs.States.{Appends-state}
use Rattle.durable_steps.specs.Rows.{flushes_of}
use Rattle.durable_steps.proofs.Rows.{flushes_more}
use Rattle.durable_steps.proofs.row.flush_lines.Goals as goal

pub loop-i-preserved : goal.loop-i-preserved
loop-i-preserved g c =
    let more = flushes_more c.args.first c.args.count c.loop-i.i c.loop-i-test.true in
    grind (arith, common_steps, more)

pub returns-clause-appends : goal.returns-clause-appends
returns-clause-appends g c =
    let state = g.P.Pmem.state in
    Appends-state (state c.args.device.now) (state c.loop-i.device) (flushes_of c.args.first c.args.count) (grind (arith, common_steps))
