use Rattle.std.proofs.Common.{◌≡◌, ◌/◌, ◌%◌, ◌∙◌, sym, ap, arith}
use Rattle.slab_morph.proofs.Common.{word_at, words_of, index_word}
use Rattle.slab_morph.proofs.Reading.{number_read}
use Rattle.slab_morph.proofs.held.number_at.Goals as goal

pub returns : goal.returns
returns g c =
    let words = words_of (g.P.Pmem.state c.args.p.now) in
    let here : c.index_at.result / 8 ≡ index_word (c.args.slab / 16384) c.args.place = omega (arith, c.index_at.ensures) in
    ap (λ w. w / 65536 % 65536) (c.load.ensures ∙ ap (word_at words) here) ∙ sym (number_read words (c.args.slab / 16384) c.args.place c.requires.place)
