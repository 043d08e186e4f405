use Rattle.std.proofs.Common.{◌≡◌, ◌++◌, take}
use Rattle.dict_text.specs.Script.{words_text}
use Rattle.dict_text.proofs.report.write_words.Given as goal

abbrev pub invariant-loop-word : goal.invariant-loop-word
invariant-loop-word l = l.out.items ≡ l.fn.out.items ++ words_text (take l.word-index l.words)
