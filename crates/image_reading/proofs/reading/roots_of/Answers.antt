use Rattle.std.proofs.Common.{◌<◌, ◌^◌, sym, subst}
use Rattle.pool_layout.specs.declared.layout.Layout.{Layout}
use Rattle.pool_layout.proofs.Layouts.{layout_rules}
use Rattle.image_reading.proofs.reading.roots_of.Goals as goal

pub returns-clause-few : goal.returns-clause-few
returns-clause-few c = subst (λ (l : Layout). l.roots < 2 ^ 16) (sym c.layout_of-layout.ensures.row) (layout_rules _).few_roots
