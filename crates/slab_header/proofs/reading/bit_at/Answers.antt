use Rattle.std.proofs.Common.{◌≡◌, ◌/◌, ◌%◌, ◌∙◌, ap, sym, arith}
use Rattle.pmem_lines.specs.Words.{word_at}
use Rattle.pmem_lines.specs.Pmem.{words_of}
use Rattle.image_tables.specs.Tables.{bitmap_word, bit_of_word}
use Rattle.image_tables.proofs.Tables.{bit_table}
use Rattle.slab_header.proofs.Bits.{bit_of_word-is}
use Rattle.slab_header.proofs.Putting.{bit_place-is}
use Rattle.slab_header.proofs.reading.bit_at.Given as given
use Rattle.slab_header.proofs.reading.bit_at.Goals as goal

-- the word that is loaded is the one that has the bit
loaded : (g : given.Over) (c : goal.After-load-word g) → c.load-word.result ≡ word_at (words_of (g.P.Pmem.state c.args.p.now)) (bitmap_word (c.args.at / 16384) c.args.i)
loaded g c =
    let place = bit_place-is c.args.at c.args.i c.bit_place-line.result.0 c.bit_place-line.result.1 c.slab_header_at.result c.requires.aligned c.bit_place-line.ensures.line c.bit_place-line.ensures.bit c.slab_header_at.ensures in
    let here : c.slab_header_at.result / 8 ≡ bitmap_word (c.args.at / 16384) c.args.i = omega (arith, place) in
    c.load-word.ensures ∙ ap (word_at (words_of (g.P.Pmem.state c.args.p.now))) here

pub returns-clause-bit : goal.returns-clause-bit
returns-clause-bit g c =
    bit_of_word-is c.load-word.result (c.bit_place-line.result.1 % 64)
    ∙ ap (λ b. bit_of_word c.load-word.result (b % 64)) c.bit_place-line.ensures.bit
    ∙ ap (λ w. bit_of_word w (c.args.i / 8 % 64)) (loaded g c)

pub returns-clause-table : goal.returns-clause-table
returns-clause-table g c is =
    returns-clause-bit g c ∙ sym (bit_table (words_of (g.P.Pmem.state c.args.p.now)) (c.args.at / 16384) c.args.i is c.requires.block)
