use Rattle.std.proofs.Common.{◌≡◌, ◌/◌, ap, sym, ◌∙◌, arith}
use Rattle.slab_morph.proofs.Common.{eqb-true, eq-eqb, word_at, words_of, normal_kind, state_word}
use Rattle.slab_morph.proofs.OldBlocks.{kind_read}
use Rattle.slab_morph.proofs.old_blocks.is_normal.Goals as goal

pub returns : goal.returns
returns g c =
    let words = words_of (g.P.Pmem.state c.args.p.now) in
    let here : c.slab_header_at.result / 8 ≡ state_word (c.args.slab / 16384) = omega (arith, c.slab_header_at.ensures) in
    let read = kind_read words c.args.slab c.requires.here c.load.result (c.load.ensures ∙ ap (word_at words) here) in
    (λ is. sym read ∙ eqb-true _ normal_kind is, λ normal. eq-eqb _ normal_kind (read ∙ normal))
