use Rattle.std.proofs.Common.{◌/◌, sym, ◌∙◌}
use Rattle.pmem_lines.specs.Pmem.{words_of}
use Rattle.slab_morph.proofs.Reading.{bit_by}
use Rattle.slab_morph.proofs.unused.is_marked.Goals as goal

pub returns-then-state : goal.returns-then-state
returns-then-state g c =
    let read = bit_by (words_of (g.P.Pmem.state c.args.p.now)) (c.args.slab / 16384) c.args.number c.bit_at.result c.requires.number c.bit_at.ensures.bit in
    (λ is. (c.if-state.true, read ∙ is), λ both. sym read ∙ both.1)
