use Rattle.std.proofs.Common.{◌≡◌, ◌/◌, ◌%◌, ◌∙◌, ap, sym, arith}
use Rattle.pmem_lines.specs.Words.{word_at}
use Rattle.image_tables.specs.Tables.{bitmap_word, bit_of_word}
use Rattle.image_tables.proofs.Tables.{bit_table}
use Rattle.slab_header.proofs.Bits.{bit_of_word-is}
use Rattle.image_reading.proofs.reading.bit_at.Goals as goal

pub returns : goal.returns
returns c =
    let word : c.bit_place-line.result.1 / 64 ≡ c.args.i / 8 / 64 = ap (λ b. b / 64) c.bit_place-line.ensures.bit in
    let here : c.slab_header_at.result / 8 ≡ bitmap_word c.args.start c.args.i = omega (arith, c.slab_header_at.ensures, c.granule_at.ensures, word, c.bit_place-line.ensures.line) in
    bit_of_word-is c.word_at-word.result (c.bit_place-line.result.1 % 64)
    ∙ ap (λ b. bit_of_word c.word_at-word.result (b % 64)) c.bit_place-line.ensures.bit
    ∙ ap (λ w. bit_of_word w (c.args.i / 8 % 64)) (c.word_at-word.ensures ∙ ap (word_at c.args.words.now) here)
    ∙ sym (bit_table c.args.words.now c.args.start c.args.i c.requires.slab.slab c.requires.block)
