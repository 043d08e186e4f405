use Rattle.std.proofs.Common.{◌∙◌, ap, arith}
use Rattle.pool_layout.specs.declared.header.PoolHeader.{PoolHeader}
use Rattle.gc_search.proofs.Premises.{header_same, bad_length}
use Rattle.gc_search.proofs.log.check_length.Goals as goal

pub returns-then-have-need-clause-defect : goal.returns-then-have-need-clause-defect
returns-then-have-need-clause-defect c =
    bad_length c.args.words.now c.from-need.result (c.from-need.ensures ∙ ap (λ (h : PoolHeader). h.granules) (header_same c.args.words.now c.args.header.now c.requires)) c.if-have-need.true

pub returns-clause-size : goal.returns-clause-size
returns-clause-size c = omega (arith, c.if-have-need.false, c.from-need.ensures, ap (λ (h : PoolHeader). h.granules) (header_same c.args.words.now c.args.header.now c.requires))
