use Rattle.arena_core.proofs.Answering.{answered_call}
use Rattle.arena_core.proofs.PlannedCalls.{planned_begun, refused_plan}
use Rattle.arena_core.proofs.arena.Arena.malloc_to.Goals as goal

pub invariant_of-self : goal.invariant_of-self
invariant_of-self g c = (c.carry_out_place.ensures (record c.self.inside.volatile { lives = c.plan_malloc-plan.new.self.lives }) c.args.size (planned_begun (g.P.Pmem.state c.begin.new.self) c.begin.ensures.state c.in-Ok.is c.plan_malloc-plan.ensures)).arena

pub returns-in-Ok : goal.returns-in-Ok
returns-in-Ok g c =
    let planned = planned_begun (g.P.Pmem.state c.begin.new.self) c.begin.ensures.state c.in-Ok.is c.plan_malloc-plan.ensures in
    answered_call (g.P.Pmem.state c.self.inside.device) c.self.view_is c.begin.ensures.state c.self.invariant.current.exact (c.carry_out_place.ensures (record c.self.inside.volatile { lives = c.plan_malloc-plan.new.self.lives }) c.args.size planned)

pub returns-in-Err : goal.returns-in-Err
returns-in-Err g c =
    let planned = planned_begun (g.P.Pmem.state c.begin.new.self) c.begin.ensures.state c.in-Err.is c.plan_malloc-plan.ensures in
    answered_call (g.P.Pmem.state c.self.inside.device) c.self.view_is c.begin.ensures.state c.self.invariant.current.exact (refused_plan c.in-Err.refusal planned)

pub carry_out_place-requires-clause-planned : goal.carry_out_place-requires-clause-planned
carry_out_place-requires-clause-planned g c =
    (record c.self.inside.volatile { lives = c.plan_malloc-plan.new.self.lives }, c.args.size, planned_begun (g.P.Pmem.state c.begin.new.self) c.begin.ensures.state c.in-Ok.is c.plan_malloc-plan.ensures)
