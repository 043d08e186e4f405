use Rattle.image_tables.specs.Tables.{tables_of}
use Rattle.defect_search.proofs.Settled.{settled_none, settled_by, stray_by}
use Rattle.defect_search.proofs.root.is_stray_root.Goals as goal

pub returns-then-at-eq0-clause-settled : goal.returns-then-at-eq0-clause-settled
returns-then-at-eq0-clause-settled c = λ _. settled_none (tables_of c.args.words.now) c.args.root c.held_root-at.result c.held_root-at.ensures c.if-at-eq0.true

pub returns-clause-stray : goal.returns-clause-stray
returns-clause-stray c = λ e. stray_by (tables_of c.args.words.now) c.args.root c.held_root-at.result c.is_standing.result c.held_root-at.ensures c.if-at-eq0.false c.is_standing.ensures e

pub returns-clause-settled : goal.returns-clause-settled
returns-clause-settled c = λ e. settled_by (tables_of c.args.words.now) c.args.root c.held_root-at.result c.is_standing.result c.held_root-at.ensures c.is_standing.ensures e
