use Rattle.std.proofs.Common.{ap, subst, sym, ◌∙◌}
use Rattle.uses.proofs.Common.{PmemState, ArenaState, IsRecovered}
use Rattle.uses.proofs.Reopened.{reopened, still_none}
use Rattle.uses.proofs.reopening.reopen.Goals as goal

pub returns-in-Ok-over-clause-reopened : goal.returns-in-Ok-over-clause-reopened
returns-in-Ok-over-clause-reopened g c = reopened (g.P.Pmem.state c.args.device) c.in-Ok.arena c.in-Ok-over.stack c.in-Ok.ensures.recovered c.in-Ok-over.ensures.opened

pub returns-in-Err-clause-fault : goal.returns-in-Err-clause-fault
returns-in-Err-clause-fault g c = (
  still_none (g.P.Pmem.state c.args.device) c.in-Ok.arena c.in-Ok.ensures.recovered c.in-Err.ensures.no_stack,
  subst (λ (s : PmemState). IsRecovered (g.P.Pmem.state c.args.device) s) (sym (c.into_pmem.ensures.device ∙ ap (λ (a : ArenaState). a.device) c.in-Err.ensures.refused_unchanged)) c.in-Ok.ensures.recovered,
)
