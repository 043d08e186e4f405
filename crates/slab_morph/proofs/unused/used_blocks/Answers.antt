use Rattle.std.proofs.Common.{◌/◌, ◌<◌, arith}
use Rattle.slab_morph.proofs.Common.{words_of, number_few}
use Rattle.slab_morph.specs.SlabHeaders.{header_at}
use Rattle.slab_morph.proofs.Fitting.{capacity_most}
use Rattle.slab_morph.proofs.OldBlocks.{class_is, small_is}
use Rattle.slab_morph.proofs.UnusedBlocks.{IsRead_by}
use Rattle.slab_morph.proofs.UsedBlocks.{used_first, used_next, used_all}
use Rattle.slab_morph.proofs.unused.used_blocks.Goals as goal

pub loop-place-init : goal.loop-place-init
loop-place-init g c =
    let words = words_of (g.P.Pmem.state c.args.p.now) in
    let start = c.args.slab / 16384 in
    let f = c.fields_of-state.result in
    let is_class : f.class < 36 = omega (arith, class_is words c.args.slab c.requires c.state_at.result c.state_at.ensures.says, c.fields_of-state.ensures.class, c.requires.valid.state.is_class) in
    record {
      size = c.marked_blocks-used.ensures.size;
      gone = used_first (header_at words start) start f.old f.class f.reads_bits c.marked_blocks-used.result (λ i within. c.marked_blocks-used.ensures.marked i (number_few f.class i is_class within));
    }

pub covered-from-requires-clause-small : goal.covered-from-requires-clause-small
covered-from-requires-clause-small g c =
    small_is (words_of (g.P.Pmem.state c.args.p.now)) c.args.slab c.requires c.state_at.result c.state_at.ensures.says c.fields_of-state.result.old c.loop-place.place c.fields_of-state.ensures.old (omega (arith, c.loop-place-test.true, c.fields_of-state.ensures.entries))

pub put_range-requires-clause-end : goal.put_range-requires-clause-end
put_range-requires-clause-end g c =
    let words = words_of (g.P.Pmem.state c.args.p.now) in
    let f = c.fields_of-state.result in
    let is_class : f.class < 36 = omega (arith, class_is words c.args.slab c.requires c.state_at.result c.state_at.ensures.says, c.fields_of-state.ensures.class, c.requires.valid.state.is_class) in
    omega (arith, c.covered-from.ensures.high, capacity_most f.class is_class)

pub loop-place-preserved : goal.loop-place-preserved
loop-place-preserved g c = record {
  size = c.put_range.ensures.size;
  gone = used_next c.covered-from.ensures c.put_range.ensures.inside c.put_range.ensures.outside c.loop-place.invariant.gone;
}

pub returns-clause-unused : goal.returns-clause-unused
returns-clause-unused g c =
    let fields = c.fields_of-state.ensures in
    let read = IsRead_by c.requires c.state_at.ensures.says fields.class fields.old fields.entries fields.reads_bits in
    used_all c.loop-place.place c.loop-place.used c.requires read (omega (arith, c.loop-place-test.false, c.loop-place.auto.place-end)) c.loop-place.invariant.gone
