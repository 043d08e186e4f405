use Rattle.std.proofs.Common.{sym, subst}
use Rattle.heap_model.specs.declared.call.Call.{Call}
use Rattle.gc_runs.specs.Answered.{HasGcAnswered}
use Rattle.gc_runs.proofs.Calls.{answered_write, answered_read}
use Rattle.gc_runs.proofs.answering.answer.Goals as goal

pub returns-in-Write-clause-answered : goal.returns-in-Write-clause-answered
returns-in-Write-clause-answered g c =
    subst (λ (call : Call). HasGcAnswered c.args.seat c.args.arena.now c.write.new.self call c.write_reply-reply.result) (sym c.in-Write.is)
    (subst (HasGcAnswered c.args.seat c.args.arena.now c.write.new.self _) (sym c.write_reply-reply.ensures)
    (answered_write c.args.seat c.write.ensures))

pub returns-in-Read-clause-answered : goal.returns-in-Read-clause-answered
returns-in-Read-clause-answered g c =
    subst (λ (call : Call). HasGcAnswered c.args.seat c.args.arena.now c.args.arena.now call c.read_reply-reply.result) (sym c.in-Read.is)
    (subst (HasGcAnswered c.args.seat c.args.arena.now c.args.arena.now _) (sym c.read_reply-reply.ensures)
    (answered_read c.args.seat c.args.arena.now c.in-Read.root c.in-Read.index c.view.result c.view.ensures.view c.view.ensures.exact c.view.ensures.ready))
