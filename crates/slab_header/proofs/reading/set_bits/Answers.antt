use Rattle.std.proofs.Common.{◌+◌, ◌/◌, ◌≤◌, ℕ, List, length, ap, ◌∙◌, arith}
use Rattle.pmem_lines.specs.Pmem.{words_of}
use Rattle.pmem_lines.proofs.Words.{length-words_at}
use Rattle.pool_layout.specs.Places.{granule_word}
use Rattle.interleaved_bitmap.specs.Places.{bit_of_header}
use Rattle.slab_header.proofs.Putting.{header_bit, header_lent}
use Rattle.slab_header.proofs.reading.set_bits.Goals as goal

pub set_blocks-requires : goal.set_blocks-requires
set_blocks-requires g c =
    let words = words_of (g.P.Pmem.state c.args.p.now) in
    let inside : granule_word (c.args.at / 16384) + 256 ≤ length words = omega (arith, c.requires.aligned, c.requires.inside) in
    ap (λ (h : List ℕ). length h) (header_lent words c.words.result.now c.args.at c.requires.aligned c.words.ensures) ∙ length-words_at words (granule_word (c.args.at / 16384)) 256 inside

pub returns-clause-bits : goal.returns-clause-bits
returns-clause-bits g c =
    let words = words_of (g.P.Pmem.state c.args.p.now) in
    λ i below.
    c.set_blocks.ensures.blocks i below
    ∙ ap (λ (h : List ℕ). bit_of_header h i) (header_lent words c.words.result.now c.args.at c.requires.aligned c.words.ensures)
    ∙ header_bit words (c.args.at / 16384) i below
