use Rattle.std.proofs.lemmas.Result.{err_from_is_err_and}
use Rattle.std.proofs.Common.{inl, inr, sym, ◌∙◌, ap, refl}
use Rattle.std.proofs.lemmas.Bool.{false≢true}
use Rattle.pool_layout.specs.declared.defect.Defect.TheVariants.{BadHeader}
use Rattle.pool_layout.specs.Header.{IsHeaderFor, fields_of}
use Rattle.pool_layout.proofs.Headers.{no_header}
use Rattle.pool_layout.proofs.header.read_line.Goals as goal

pub returns-in_err-word-clause-defect : goal.returns-in_err-word-clause-defect
returns-in_err-word-clause-defect c =
    let p = err_from_is_err_and c.from_residual.result c.from_residual.ensures.1 in
    rw (p.1, p.2) (inr (c.if-words-lt8.false, inl c.in_err-word.ensures))

pub returns-then-not-is_header_for-clause-defect : goal.returns-then-not-is_header_for-clause-defect
returns-then-not-is_header_for-clause-defect c =
    let word = c.in_ok-word.ensures in
    let fields = ap fields_of (sym word.is) ∙ sym c.fields_of-header.ensures.fields in
    let none : ¬ (IsHeaderFor c.args.variant c.fields_of-header.result) = λ valid. false≢true (c.if-not-is_header_for.ensures.1 valid) in
    inr (c.if-words-lt8.false, inr (word.text, (λ good. no_header c.args.variant _ (rw fields none) good.0 good.2 good.1), ap (BadHeader 1) word.is))

pub returns-clause-header : goal.returns-clause-header
returns-clause-header c = record {
  whole = c.if-words-lt8.false;
  text = c.in_ok-word.ensures.text;
  word = sym (c.fields_of-header.ensures.inverse ∙ c.in_ok-word.ensures.is);
  valid = c.if-not-is_header_for.ensures.0 refl;
}
