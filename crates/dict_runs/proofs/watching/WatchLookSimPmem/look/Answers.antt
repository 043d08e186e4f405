use Rattle.std.proofs.Common.{Some, ◌∙◌, subst, inr, arith}
use Rattle.trace_crashes.specs.Seek.{last_stage}
use Rattle.dict_runs.specs.declared.watching.Watch.{Watch}
use Rattle.dict_runs.specs.Watching.{IsWatchedFrom}
use Rattle.dict_runs.proofs.watching.WatchLookSimPmem.look.Goals as goal

pub returns-then-self-count : goal.returns-then-self-count
returns-then-self-count c =
    let self = c.args.self.now in
    let count = c.from-count.ensures ∙ c.event_count.ensures in
    let new : Watch = record { alloc = self.alloc; seed = self.seed; left = self.left; image = Some c.in_ok-image.image } in
    subst (λ b. IsWatchedFrom b self (last_stage c.args.device.now) new) c.if-is_some.ensures
    (inr (record {
      some = omega (arith, c.if-count-gt0.true, count);
      within = omega (arith, c.if-self-count.true, count);
      image = (c.in_ok-image.ensures.image, c.in_ok-image.ensures.one);
    }))
