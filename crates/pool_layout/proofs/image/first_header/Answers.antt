use Rattle.std.proofs.lemmas.Result.{err_from_is_err_and}
use Rattle.pmem_lines.specs.Words.{word_at}
use Rattle.pool_layout.proofs.Images.{bad_first, other_first}
use Rattle.pool_layout.proofs.image.first_header.Goals as goal

pub returns-in_err-header : goal.returns-in_err-header
returns-in_err-header c =
    let p = err_from_is_err_and c.from_residual.result c.from_residual.ensures.1 in
    rw (p.1, p.2) (bad_first c.args.variant c.args.words.now c.requires c.in_err-header.ensures.defect)

pub returns-then-header-ne0 : goal.returns-then-header-ne0
unfolding word_at
returns-then-header-ne0 c = other_first c.args.variant c.args.words.now c.in_ok-header.header c.in_ok-header.ensures.header c.if-header-ne0.true

pub returns : goal.returns
returns c =
    let is = c.in_ok-header.ensures.header in
    record { text = is.text; fields = is.word; valid = record { valid = is.valid; number = c.if-header-ne0.false } }
