use Rattle.std.proofs.Common.{arith}
use Rattle.std.proofs.lemmas.Grind.{common_steps}
use Rattle.pmem_lines.proofs.States.{Appends-state}
use Rattle.durable_steps.specs.Rows.{stores_at}
use Rattle.durable_steps.proofs.row.store_words.Goals as goal

pub returns-clause-appends : goal.returns-clause-appends
returns-clause-appends g c =
    let state = g.P.Pmem.state in
    Appends-state (state c.args.device.now) (state c.loop-i.device) (stores_at c.args.from c.args.words.now) (grind (arith, common_steps))
