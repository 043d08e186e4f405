use Rattle.std.proofs.Common.{ℕ, List, sym, subst, ap, ◌∙◌, arith}
use Rattle.pool_layout.specs.Image.{part_of}
use Rattle.image_defects.specs.Defects.{IsFirstDefect}
use Rattle.image_runs.specs.Checks.{HasUnsoundFrom, AddsLine, IsOwnDefect}
use Rattle.image_runs.proofs.Faults.{wider}
use Rattle.image_runs.proofs.Lines.{lines_more, sound_before}
use Rattle.image_runs.proofs.checking.check_arenas.Goals as goal

pub returns-in-Err-clause-unsound : goal.returns-in-Err-clause-unsound
returns-in-Err-clause-unsound c =
    let words = c.args.words.now in
    let header = c.args.header.now in
    let k = c.loop-arena.arena in
    wider c.in-Err.fault (IsOwnDefect c.parts.result.now k) (HasUnsoundFrom words header 0)
    (λ arena defect own. record {
      low = omega arith;
      inside = omega (arith, own.same, c.loop-arena-test.true);
      before = λ earlier from below. sound_before words header.granules c.loop-arena.invariant earlier (omega (arith, below, own.same));
      first = subst (λ (ws : List ℕ). IsFirstDefect ws defect) (c.parts.ensures ∙ ap (λ n. part_of words header.granules n) (sym own.same)) own.first;
    })
    c.in-Err.ensures.defect

pub loop-arena-preserved : goal.loop-arena-preserved
loop-arena-preserved c =
    lines_more c.args.words.now c.args.header.now.granules c.loop-arena.invariant
    (subst (λ (ws : List ℕ). AddsLine ws c.loop-arena.arena c.loop-arena.text.items c.check_one.new.text.items) c.parts.ensures c.in-Ok.ensures.line)
