use Rattle.std.proofs.Common.{◌∙◌, arith}
use Rattle.defect_search.proofs.LineWords.{eight_lines}
use Rattle.defect_search.proofs.lines.next_line.Goals as goal

pub returns-then-wal_word-ne0 : goal.returns-then-wal_word-ne0
returns-then-wal_word-ne0 c = record {
  low = omega arith;
  below = omega (arith, eight_lines);
  some = λ none. c.if-wal_word-ne0.true (c.wal_word.ensures ∙ none);
  between = c.loop-line.invariant;
}

pub returns : goal.returns
returns c = record { closed = λ line low below. c.loop-line.invariant line low (omega (arith, eight_lines)) }
