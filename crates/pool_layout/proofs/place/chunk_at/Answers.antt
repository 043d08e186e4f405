use Rattle.std.proofs.Common.{◌+◌, ◌*◌, ◌/◌, ap, ◌∙◌}
use Rattle.pool_layout.specs.declared.layout.Layout.{Layout}
use Rattle.pool_layout.proofs.Layouts.{chunk_byte}
use Rattle.pool_layout.proofs.place.chunk_at.Goals as goal

pub returns : goal.returns
returns c =
    let layout = c.layout_of-layout in
    chunk_byte layout.result c.args.chunk layout.ensures.rules
    ∙ ap (λ (row : Layout). 8 * (row.log_at / 8 + row.chunk_bytes / 8 * c.args.chunk)) layout.ensures.row
