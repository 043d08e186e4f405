use Rattle.std.proofs.Common.{◌∙◌, sym, subst, true≢false, arith}
use Rattle.image_defects.specs.Wal.{IsOpenWord}
use Rattle.defect_search.proofs.LineWords.{eight_lines, good_closed, first_bad_line, bad_or_good}
use Rattle.defect_search.proofs.lines.bad_line.Goals as goal

pub returns-in-None : goal.returns-in-None
returns-in-None c = good_closed c.args.words.now c.in-None.ensures

pub wal_word-requires-clause-line : goal.wal_word-requires-clause-line
wal_word-requires-clause-line c = omega (arith, eight_lines, c.in-Some.ensures.below)

pub wal_word-requires-clause-inside : goal.wal_word-requires-clause-inside
wal_word-requires-clause-inside c = omega (arith, eight_lines, c.in-Some.ensures.below)

pub overflow_add-first : goal.overflow_add-first
overflow_add-first c = omega (arith, eight_lines, c.in-Some.ensures.below)

pub returns-then-not-is_open_word : goal.returns-then-not-is_open_word
returns-then-not-is_open_word c = first_bad_line c.args.words.now c.in-Some.line c.in-Some.ensures (λ may. true≢false (sym (c.is_open_word.ensures.1 (subst (IsOpenWord c.args.words.now) (sym c.wal_word.ensures) may)) ∙ c.if-not-is_open_word.true))

pub returns : goal.returns
returns c =
    let may = subst (IsOpenWord c.args.words.now) c.wal_word.ensures (c.is_open_word.ensures.0 c.if-not-is_open_word.false) in
    bad_or_good c.args.words.now c.in-Some.line c.next_line-2.result c.in-Some.ensures may c.next_line-2.ensures
