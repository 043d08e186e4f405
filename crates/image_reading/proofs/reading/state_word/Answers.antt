use Rattle.std.proofs.Common.{◌≡◌, ◌/◌, ◌∙◌, ap, arith}
use Rattle.pmem_lines.specs.Words.{word_at}
use Rattle.image_tables.specs.Tables.{state_word}
use Rattle.image_reading.proofs.reading.state_word.Goals as goal

pub returns : goal.returns
returns c =
    let here : c.granule_at.result / 8 ≡ state_word c.args.start = omega (arith, c.granule_at.ensures) in
    c.word_at.ensures ∙ ap (word_at c.args.words.now) here
