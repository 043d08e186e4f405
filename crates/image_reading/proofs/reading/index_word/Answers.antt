use Rattle.std.proofs.Common.{◌≡◌, ◌/◌, ◌∙◌, ap, arith}
use Rattle.pmem_lines.specs.Words.{word_at}
use Rattle.image_tables.specs.Tables.{index_word}
use Rattle.image_reading.proofs.reading.index_word.Goals as goal

pub returns : goal.returns
returns c =
    let here : c.index_at.result / 8 ≡ index_word c.args.start c.args.place = omega (arith, c.index_at.ensures, c.granule_at.ensures) in
    c.word_at.ensures ∙ ap (word_at c.args.words.now) here
