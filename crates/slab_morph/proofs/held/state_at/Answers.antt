use Rattle.std.proofs.Common.{◌≡◌, ◌/◌, ◌∙◌, ap, arith}
use Rattle.slab_morph.proofs.Common.{word_at, words_of, state_word}
use Rattle.slab_morph.proofs.Reading.{state_read}
use Rattle.slab_morph.proofs.held.state_at.Goals as goal

pub returns-in-Some-clause-says : goal.returns-in-Some-clause-says
returns-in-Some-clause-says g c =
    let words = words_of (g.P.Pmem.state c.args.p.now) in
    let here : c.slab_header_at.result / 8 ≡ state_word (c.args.slab / 16384) = omega (arith, c.slab_header_at.ensures) in
    state_read words (c.args.slab / 16384) c.load.result c.in-Some.state (c.load.ensures ∙ ap (word_at words) here) c.in-Some.ensures.says
