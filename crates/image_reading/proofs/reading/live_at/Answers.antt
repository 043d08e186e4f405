use Rattle.std.proofs.Common.{◌≡◌, ◌/◌, ◌∙◌, ap, sym, arith}
use Rattle.pmem_lines.specs.Words.{word_at}
use Rattle.image_tables.specs.Tables.{index_word, bit_of_word}
use Rattle.image_tables.proofs.Tables.{live_table}
use Rattle.slab_header.proofs.Entries.{bit_of_word-lowest}
use Rattle.image_reading.proofs.reading.live_at.Goals as goal

pub returns : goal.returns
returns c =
    let here : c.index_at.result / 8 ≡ index_word c.args.start c.args.place = omega (arith, c.index_at.ensures, c.granule_at.ensures) in
    sym (bit_of_word-lowest c.word_at.result) ∙ ap (λ w. bit_of_word w 0) (c.word_at.ensures ∙ ap (word_at c.args.words.now) here) ∙ sym (live_table c.args.words.now c.args.start c.args.place c.requires.slab.slab c.requires.place)
