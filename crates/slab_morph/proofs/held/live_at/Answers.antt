use Rattle.std.proofs.Common.{◌≡◌, ◌/◌, ◌∙◌, sym, ap, arith}
use Rattle.slab_morph.proofs.Common.{word_at, words_of, index_word, bit_of_word}
use Rattle.slab_header.proofs.Entries.{bit_of_word-lowest}
use Rattle.slab_morph.proofs.Reading.{live_read}
use Rattle.slab_morph.proofs.held.live_at.Goals as goal

pub returns : goal.returns
returns g c =
    let words = words_of (g.P.Pmem.state c.args.p.now) in
    let here : c.index_at.result / 8 ≡ index_word (c.args.slab / 16384) c.args.place = omega (arith, c.index_at.ensures) in
    sym (bit_of_word-lowest c.load.result) ∙ ap (λ w. bit_of_word w 0) (c.load.ensures ∙ ap (word_at words) here) ∙ sym (live_read words (c.args.slab / 16384) c.args.place c.requires.place)
