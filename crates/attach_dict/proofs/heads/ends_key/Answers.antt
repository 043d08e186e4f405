use Rattle.std.proofs.Common.{◌+◌, ◌<◌, length, arith}
use Rattle.attach_dict.proofs.Taken.{ends_at_end, ends_before}
use Rattle.attach_dict.proofs.heads.ends_key.Goals as goal

pub returns-then-place-heads : goal.returns-then-place-heads
returns-then-place-heads c = λ h at. ends_at_end c.args.heads.now c.requires.order c.args.place h at c.if-place-heads.true

pub returns-else-place-heads : goal.returns-else-place-heads
returns-else-place-heads c = λ h at.
    let low : c.args.place + 1 < length c.args.heads.now = omega (arith, c.requires.inside, c.if-place-heads.false) in
    ends_before c.args.heads.now c.requires.order c.args.place h at (record { key = 0; number = 0; root = 0 }) low
