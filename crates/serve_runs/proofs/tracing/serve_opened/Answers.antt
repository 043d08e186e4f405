use Rattle.std.proofs.Common.{rules, ◌≡◌, ◌∙◌, ap, sym, subst, length, drop}
use Rattle.serve_runs.proofs.Common.{EachFrom, Clerk, each_of}
use Rattle.arena_server.specs.Closed.{owner_numbers}
use Rattle.arena_server.proofs.Startings.{take_front}
use Rattle.serve_runs.proofs.ToldDesks.{order_same}
use Rattle.serve_runs.proofs.tracing.serve_opened.Goals as goal

pub close_told-requires-clause-order : goal.close_told-requires-clause-order
close_told-requires-clause-order g c =
    let new = c.run_all.new.clerks in
    let numbers = c.run_all.ensures.owners ∙ ap (λ cs. owner_numbers (each_of cs (λ (z : Clerk). z.owner))) c.as_mut_slice.ensures.value in
    subst (EachFrom (λ number (z : Clerk). z.owner.pass.number ≡ number) 0) (sym (take_front new (drop (length new) c.args.clerks.items) c.args.clerks.len (search rules)))
    (order_same 0 new c.args.clerks.items numbers c.requires.order)
