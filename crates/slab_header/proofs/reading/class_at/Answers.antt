use Rattle.std.proofs.Common.{◌≡◌, ◌/◌, ◌%◌, ◌^◌, ◌∙◌, ap, sym, arith}
use Rattle.std.proofs.lemmas.Bool.{cond-true}
use Rattle.pmem_lines.specs.Words.{word_at}
use Rattle.pmem_lines.specs.Pmem.{words_of}
use Rattle.image_tables.specs.Tables.{is_slab, state_word}
use Rattle.image_tables.proofs.Tables.{slab_fields}
use Rattle.slab_header.proofs.reading.class_at.Goals as goal

pub returns : goal.returns
returns g c is =
    let words = words_of (g.P.Pmem.state c.args.p.now) in
    let start = c.args.at / 16384 in
    let here : c.slab_header_at.result / 8 ≡ state_word start = omega (arith, c.slab_header_at.ensures, c.requires.aligned) in
    let field = word_at words (state_word start) / 2 ^ 8 % 2 ^ 8 in
    ap (λ w. w / 2 ^ 8 % 2 ^ 8) (c.load.ensures ∙ ap (word_at words) here) ∙ sym (cond-true (is_slab words start) field 0 is) ∙ sym (slab_fields words start).class
