use Rattle.std.proofs.Common.{arith, inr}
use Rattle.image_defects.specs.Defects.{FromShared, FromWal}
use Rattle.defect_search.proofs.LineWords.{eight_lines}
use Rattle.image_check.proofs.Outcomes.{defect_lift}
use Rattle.image_check.proofs.stages.check_roots.Goals as goal

pub overflow_cast-result : goal.overflow_cast-result
overflow_cast-result c = omega (arith, eight_lines, c.in-Some.ensures.here.below)

pub wal_word-requires-clause-line : goal.wal_word-requires-clause-line
wal_word-requires-clause-line c = omega (arith, eight_lines, c.in-Some.ensures.here.below)

pub wal_word-requires-clause-inside : goal.wal_word-requires-clause-inside
wal_word-requires-clause-inside c = omega (arith, eight_lines, c.in-Some.ensures.here.below)

pub returns-clause-defect : goal.returns-clause-defect
returns-clause-defect c =
    let words = c.args.words.now in
    defect_lift (FromShared words) (FromWal words) c.check_blocks.result (λ d is. inr (c.in_default.ensures, inr (c.in_default-stray_root.ensures, is))) c.check_blocks.ensures.defect
