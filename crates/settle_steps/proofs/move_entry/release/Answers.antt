use Rattle.std.proofs.Common.{sym, subst}
use Rattle.settle_steps.proofs.Common.{words_of, IsQuietStep}
use Rattle.settle_steps.specs.Moves.{release_events, ReleasesOrNot}
use Rattle.settle_steps.proofs.move_entry.release.Goals as goal

pub returns-then-both-clause-step : goal.returns-then-both-clause-step
returns-then-both-clause-step g c =
    let state = g.P.Pmem.state in
    subst (λ b. IsQuietStep (state c.args.p.now) (state c.put_root.new.p) (release_events c.args.from b) (ReleasesOrNot (words_of (state c.args.p.now)) c.args.from b))
    (sym c.if-both.true) c.put_root.ensures.step
