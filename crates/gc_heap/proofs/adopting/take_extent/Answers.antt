use Rattle.std.proofs.Common.{◌+◌, ℕ, sym, ap, subst}
use Rattle.pmem_lines.specs.Pmem.{words_of}
use Rattle.book_log.specs.Entry.{start_of}
use Rattle.heap_check.specs.Image.{bounds_of}
use Rattle.gc_heap.specs.Arena.{state_in}
use Rattle.gc_heap.specs.Adopting.{AreReadTo}
use Rattle.gc_heap.proofs.Adopted.{next_large, next_slab, slab_says}
use Rattle.gc_heap.proofs.adopting.take_extent.Goals as goal

pub take_large-requires : goal.take_large-requires
take_large-requires g c =
    let words = words_of (g.P.Pmem.state c.args.device.now) in
    let next = next_large words c.requires.exact c.args.log.now c.args.indexes.now c.args.extent c.in-Large.start c.in-Large.granules c.requires.book c.in-Large.is c.requires.next in
    record { next = record { bounds = bounds_of words; machine = state_in words; roots = (bounds_of words).roots; from = next.0; is = next.1 } }

pub class_at-requires-clause-slab : goal.class_at-requires-clause-slab
class_at-requires-clause-slab g c = slab_says (words_of (g.P.Pmem.state c.args.device.now)) c.requires.exact c.args.indexes.now c.args.extent c.in-Slab.start c.in-Slab.is c.requires.next

pub take_slab-requires : goal.take_slab-requires
take_slab-requires g c =
    let words = words_of (g.P.Pmem.state c.args.device.now) in
    let next = next_slab words c.requires.exact c.args.log.now c.args.indexes.now c.args.extent c.in-Slab.start c.class_at.result c.requires.book c.in-Slab.is c.requires.next c.class_at.ensures in
    record { next = record { bounds = bounds_of words; machine = state_in words; from = next.0; is = next.1 } }

pub returns-in-Large-clause-taken : goal.returns-in-Large-clause-taken
returns-in-Large-clause-taken g c =
    let words = words_of (g.P.Pmem.state c.args.device.now) in
    let next = next_large words c.requires.exact c.args.log.now c.args.indexes.now c.args.extent c.in-Large.start c.in-Large.granules c.requires.book c.in-Large.is c.requires.next in
    subst (λ (s : ℕ). AreReadTo words (bounds_of words).roots (s + 1) c.take_large.new.self) (sym (ap start_of c.in-Large.is))
    (c.take_large.ensures.taken (bounds_of words) (state_in words) (bounds_of words).roots next.0 next.1)

pub returns-in-Slab-clause-taken : goal.returns-in-Slab-clause-taken
returns-in-Slab-clause-taken g c =
    let words = words_of (g.P.Pmem.state c.args.device.now) in
    let next = next_slab words c.requires.exact c.args.log.now c.args.indexes.now c.args.extent c.in-Slab.start c.class_at.result c.requires.book c.in-Slab.is c.requires.next c.class_at.ensures in
    subst (λ (s : ℕ). AreReadTo words (bounds_of words).roots (s + 1) c.take_slab.new.self) (sym (ap start_of c.in-Slab.is))
    (c.take_slab.ensures.taken (bounds_of words) (state_in words) next.0 next.1)
