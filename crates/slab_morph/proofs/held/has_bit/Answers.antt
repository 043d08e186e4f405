use Rattle.std.proofs.Common.{◌/◌, ◌<◌, ◌≤◌, ◌≡◌, ⊎_elim, true, false, ap, ◌∙◌, arith}
use Rattle.slab_morph.proofs.Common.{cases_lt, words_of}
use Rattle.slab_morph.specs.SlabHeaders.{header_at}
use Rattle.slab_morph.proofs.Reading.{bit_by}
use Rattle.slab_morph.proofs.held.has_bit.Goals as goal

pub returns-then-bit_at-clause-some : goal.returns-then-bit_at-clause-some
returns-then-bit_at-clause-some g c _ =
    let words = words_of (g.P.Pmem.state c.args.p.now) in
    (c.loop-i.i, omega arith, omega arith, bit_by words (c.args.slab / 16384) c.loop-i.i true (omega arith) c.if-bit_at.ensures.bit)

pub loop-i-preserved : goal.loop-i-preserved
loop-i-preserved g c i low high =
    let words = words_of (g.P.Pmem.state c.args.p.now) in
    let held = (header_at words (c.args.slab / 16384)).bit in
    ⊎_elim
    (λ (less : i < c.loop-i.i). c.loop-i.invariant i low less)
    (λ (last : c.loop-i.i ≤ i).
    let here : i ≡ c.loop-i.i = omega (arith, last, high) in
    ap held here ∙ bit_by words (c.args.slab / 16384) c.loop-i.i false (omega arith) c.if-bit_at.ensures.bit)
    (cases_lt i c.loop-i.i)
