use Rattle.std.proofs.Common.{sym, subst}
use Rattle.heap_model.specs.declared.call.Call.{Call}
use Rattle.arena_journal.specs.Journals.{HasAnswered}
use Rattle.arena_journal.proofs.Answered.{HasAnswered-write, HasAnswered-read, HasAnswered-move}
use Rattle.arena_journal.proofs.answering.answer.Goals as goal

pub returns-in-Write-clause-answered : goal.returns-in-Write-clause-answered
returns-in-Write-clause-answered g c =
    subst (λ (call : Call). HasAnswered c.args.seat c.args.arena.now c.write.new.self call c.write_reply-reply.result) (sym c.in-Write.is)
    (subst (HasAnswered c.args.seat c.args.arena.now c.write.new.self _) (sym c.write_reply-reply.ensures)
    (HasAnswered-write c.args.seat c.write.ensures))

pub returns-in-Read-clause-answered : goal.returns-in-Read-clause-answered
returns-in-Read-clause-answered g c =
    subst (λ (call : Call). HasAnswered c.args.seat c.args.arena.now c.args.arena.now call c.read_reply-reply.result) (sym c.in-Read.is)
    (subst (HasAnswered c.args.seat c.args.arena.now c.args.arena.now _) (sym c.read_reply-reply.ensures)
    (HasAnswered-read c.args.seat c.args.arena.now c.in-Read.root c.in-Read.index c.view.result c.view.ensures.view c.view.ensures.exact c.view.ensures.ready))

pub returns-in-Move-clause-answered : goal.returns-in-Move-clause-answered
returns-in-Move-clause-answered g c =
    subst (λ (call : Call). HasAnswered c.args.seat c.args.arena.now c.move_to.new.self call c.move_reply-reply.result) (sym c.in-Move.is)
    (subst (HasAnswered c.args.seat c.args.arena.now c.move_to.new.self _) (sym c.move_reply-reply.ensures)
    (HasAnswered-move c.args.seat c.move_to.ensures))
