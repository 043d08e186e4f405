use Rattle.std.proofs.Common.{◌≡◌, ◌+◌, ◌-◌, ◌*◌, ap, arith, take, drop}
use Rattle.pmem_lines.specs.Words.{words_at}
use Rattle.pool_layout.proofs.image.parts.Goals as goal

pub returns : goal.returns
unfolding words_at
returns c =
    let size = 2048 * c.args.h.now.granules in
    let from = size * c.args.arena in
    let many : from + size - from ≡ size = omega arith in
    ap (λ n. take n (drop from c.args.words.now)) many
