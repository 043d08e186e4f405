use Rattle.std.proofs.Common.{cond, ap, sym}
use Rattle.std.proofs.lemmas.Bool.{eq-eqb, ne_eqb}
use Rattle.pool_layout.specs.Layout.{first_layout, second_layout, layout_of}
use Rattle.pool_layout.proofs.layout.layout_of.Goals as goal

pub returns-then-version-eq2-clause-row : goal.returns-then-version-eq2-clause-row
unfolding layout_of
returns-then-version-eq2-clause-row c = sym (ap (λ second. cond second second_layout first_layout) (eq-eqb c.args.version 2 c.if-version-eq2.true))

pub returns-else-version-eq2-clause-row : goal.returns-else-version-eq2-clause-row
unfolding layout_of
returns-else-version-eq2-clause-row c = sym (ap (λ second. cond second second_layout first_layout) (ne_eqb c.args.version 2 c.if-version-eq2.false))
