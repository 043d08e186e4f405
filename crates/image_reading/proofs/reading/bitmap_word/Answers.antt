use Rattle.std.proofs.Common.{◌≡◌, ◌+◌, ◌/◌, ◌%◌, ◌∙◌, ap, arith}
use Rattle.pmem_lines.specs.Words.{word_at}
use Rattle.pool_layout.specs.Places.{granule_word, line_place}
use Rattle.image_reading.proofs.reading.bitmap_word.Goals as goal

pub returns : goal.returns
returns c =
    let here : c.slab_header_at.result / 8 ≡ granule_word c.args.start + line_place (1 + c.args.word % 8) (c.args.word / 8) = omega (arith, c.slab_header_at.ensures, c.granule_at.ensures) in
    c.word_at.ensures ∙ ap (word_at c.args.words.now) here
