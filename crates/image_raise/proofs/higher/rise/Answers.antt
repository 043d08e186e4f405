use Rattle.std.proofs.Common.{ap, arith}
use Rattle.pool_layout.specs.declared.layout.Layout.{Layout}
use Rattle.image_raise.proofs.Rows.{rises}
use Rattle.image_raise.proofs.higher.rise.Goals as goal

pub overflow_sub-result : goal.overflow_sub-result
overflow_sub-result c = omega (arith, ap (λ (row : Layout). row.first_granule) c.layout_of.ensures.row, ap (λ (row : Layout). row.first_granule) c.layout_of-2.ensures.row, rises)

pub returns : goal.returns
returns c = omega (arith, ap (λ (row : Layout). row.first_granule) c.layout_of.ensures.row, ap (λ (row : Layout). row.first_granule) c.layout_of-2.ensures.row, rises)
