use Rattle.std.proofs.Common.{◌/◌, true≢false, sym, ◌∙◌}
use Rattle.pmem_lines.specs.Pmem.{words_of}
use Rattle.bit_words.proofs.Bits.{has-zeros}
use Rattle.slab_morph.proofs.Reading.{bit_by}
use Rattle.slab_morph.proofs.unused.marked_blocks.Goals as goal

pub returns-then-state-clause-marked : goal.returns-then-state-clause-marked
returns-then-state-clause-marked g c i below =
    let read = bit_by (words_of (g.P.Pmem.state c.args.p.now)) (c.args.slab / 16384) i _ below (c.set_bits.ensures.bits i below) in
    (λ is. (c.if-state.true, read ∙ is), λ both. sym read ∙ both.1)

pub returns-else-state-clause-marked : goal.returns-else-state-clause-marked
returns-else-state-clause-marked g c i below = (λ is. absurd (true≢false (sym is ∙ has-zeros 64 i)), λ both. absurd (true≢false (sym both.0 ∙ c.if-state.false)))
