use Rattle.pmem_lines.specs.Pmem.{words_of}
use Rattle.gc_heap.specs.Writing.{IsGcWriteCarried}
use Rattle.gc_heap.proofs.Answering.{IsGcArena-began, answered_write}
use Rattle.gc_heap.proofs.arena.GcArena.write.Given as given
use Rattle.gc_heap.proofs.arena.GcArena.write.Goals as goal

pub plan_write-plan-requires-clause-block : goal.plan_write-plan-requires-clause-block
plan_write-plan-requires-clause-block g c = (words_of (g.P.Pmem.state c.self.inside.device), c.args.root, c.block_of-block.ensures)

pub carry_out_write-requires-clause-plan : goal.carry_out_write-requires-clause-plan
carry_out_write-requires-clause-plan g c =
    let plan = c.plan_write-plan.ensures (words_of (g.P.Pmem.state c.self.inside.device)) c.args.root c.block_of-block.ensures in
    (c.args.root, c.args.from, rw c.begin.ensures.state plan)

-- what was done behind the begin
carried : (g : given.Over) (c : goal.After-carry_out_write g) → let state = g.P.Pmem.state in IsGcWriteCarried (state c.begin.new.self) (state c.carry_out_write.new.device) c.args.root c.args.from c.args.words.now c.carry_out_write.result
carried g c =
    let plan = c.plan_write-plan.ensures (words_of (g.P.Pmem.state c.self.inside.device)) c.args.root c.block_of-block.ensures in
    c.carry_out_write.ensures c.args.root c.args.from (rw c.begin.ensures.state plan)

pub invariant_of-self : goal.invariant_of-self
invariant_of-self g c = (carried g c).arena c.self.inside.log c.self.inside.indexes (rw (← c.begin.ensures.state) at (IsGcArena-began c.self.invariant))

pub returns : goal.returns
returns g c = answered_write (g.P.Pmem.state c.self.inside.device) c.self.view_is c.begin.ensures.state c.self.invariant (carried g c)
