use Rattle.arena_core.proofs.Common.{words_of, IsWriteCarried}
use Rattle.arena_core.proofs.Answering.{IsArena-began, answered_write}
use Rattle.arena_core.proofs.arena.Arena.write.Given as given
use Rattle.arena_core.proofs.arena.Arena.write.Goals as goal

pub plan_write-plan-requires-clause-block : goal.plan_write-plan-requires-clause-block
plan_write-plan-requires-clause-block g c = (words_of (g.P.Pmem.state c.self.inside.device), c.args.root, c.block_of-block.ensures)

pub carry_out_write-requires-clause-plan : goal.carry_out_write-requires-clause-plan
carry_out_write-requires-clause-plan g c =
    let plan = c.plan_write-plan.ensures (words_of (g.P.Pmem.state c.self.inside.device)) c.args.root c.block_of-block.ensures in
    (c.args.root, c.args.from, rw c.begin.ensures.state plan)

-- what was done behind the begin
carried : (g : given.Over) (c : goal.After-carry_out_write g) → let state = g.P.Pmem.state in IsWriteCarried (state c.begin.new.self) (state c.carry_out_write.new.device) c.args.root c.args.from c.args.words.now c.carry_out_write.result
carried g c =
    let plan = c.plan_write-plan.ensures (words_of (g.P.Pmem.state c.self.inside.device)) c.args.root c.block_of-block.ensures in
    c.carry_out_write.ensures c.args.root c.args.from (rw c.begin.ensures.state plan)

pub invariant_of-self : goal.invariant_of-self
invariant_of-self g c = (carried g c).arena c.self.inside.volatile (rw (← c.begin.ensures.state) at (IsArena-began c.self.invariant))

pub returns : goal.returns
returns g c = answered_write (g.P.Pmem.state c.self.inside.device) c.self.view_is c.begin.ensures.state c.self.invariant (carried g c)
