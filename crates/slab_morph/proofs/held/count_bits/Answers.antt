use Rattle.std.proofs.Common.{◌/◌, true, false, arith}
use Rattle.pmem_lines.specs.Pmem.{words_of}
use Rattle.slab_morph.specs.SlabHeaders.{header_at}
use Rattle.slab_morph.proofs.Numbers.{count_more}
use Rattle.slab_morph.proofs.Reading.{bit_by}
use Rattle.slab_morph.proofs.held.count_bits.Goals as goal
use Rattle.slab_morph.proofs.held.count_bits.Goals.{then-bit_at, else-bit_at}

pub loop-i-preserved : goal.loop-i-preserved
loop-i-preserved g c =
    let words = words_of (g.P.Pmem.state c.args.p.now) in
    let start = c.args.slab / 16384 in
    let held = (header_at words start).bit in
    elim c.if-bit_at.branch [
      | then-bit_at w ↦
          let more = count_more held c.loop-i.i true (bit_by words start c.loop-i.i true (omega arith) w.if-bit_at.ensures.bit) in
          record { few = omega arith; count = omega (arith, more) }
      | else-bit_at w ↦
          let more = count_more held c.loop-i.i false (bit_by words start c.loop-i.i false (omega arith) w.if-bit_at.ensures.bit) in
          record { few = omega arith; count = omega (arith, more) }
    ]
