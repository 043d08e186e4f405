use Rattle.std.proofs.Common.{◌∙◌, List, length, ap, sym, subst, arith}
use Rattle.gc_check.specs.Heap.{gc_tables}
use Rattle.heap_map.proofs.Extents.{extent_cell}
use Rattle.gc_map.specs.GcRules.{roots_in, gc_rules}
use Rattle.gc_map.specs.declared.tallies.Tally.{Tally}
use Rattle.gc_map.specs.Places.{tally_in, IsTally}
use Rattle.gc_map.proofs.Slabs.{state_of, slab_lies}
use Rattle.gc_map.proofs.SlabTallies.{turns_by}
use Rattle.gc_map.proofs.scanning.slab_cell.Goals as goal

pub tally_at-tally-requires : goal.tally_at-tally-requires
tally_at-tally-requires c =
    let reading = c.requires.reading in
    omega (arith, ap (λ (xs : List Tally). length xs) c.deref.ensures.value, reading.tallies.all, (slab_lies c.args.words.now reading.image.sound c.args.start c.requires.slab).1)

pub returns : goal.returns
returns c =
    let words = c.args.words.now in
    let start = c.args.start in
    let reading = c.requires.reading in
    let sound = reading.image.sound in
    let own = reading.tallies.each start (omega (arith, (slab_lies words sound start c.requires.slab).1)) in
    let tally = subst (IsTally (gc_tables words) start (roots_in words)) (sym (c.tally_at-tally.ensures ∙ ap (λ (xs : List Tally). tally_in xs start) c.deref.ensures.value)) own in
    extent_cell gc_rules words start _
    (λ k covers. (
      record {
        slab = c.requires.slab;
        state = state_of words sound start c.class_of_slab-class.result c.requires.slab c.class_of_slab-class.ensures.class;
        live = tally.live;
        old = tally.old;
        bytes = tally.bytes;
        turns = turns_by words start c.tally_at-tally.result.old tally.old;
      },
      covers,
    ))
    c.is_empty_slab.ensures
