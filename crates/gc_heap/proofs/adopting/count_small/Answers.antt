use Rattle.std.proofs.Common.{◌≡◌, ◌==◌, not, sym, ap}
use Rattle.pmem_lines.specs.Pmem.{words_of}
use Rattle.heap_check.specs.Image.{bounds_of}
use Rattle.gc_heap.specs.Arena.{state_in}
use Rattle.gc_heap.proofs.Adopted.{next_root, slab_has, small_next}
use Rattle.gc_heap.proofs.adopting.count_small.Goals as goal

pub slab_around-start-requires-clause-slab : goal.slab_around-start-requires-clause-slab
slab_around-start-requires-clause-slab g c = slab_has (words_of (g.P.Pmem.state c.args.device.now)) c.requires.exact c.args.root c.args.at c.args.size c.requires.block

pub count_block-requires : goal.count_block-requires
count_block-requires g c =
    let words = words_of (g.P.Pmem.state c.args.device.now) in
    record { next = record { bounds = bounds_of words; machine = state_in words; roots = c.args.root; from = 0; is = small_next words c.requires.exact c.args.root c.args.at c.args.size c.requires.block c.args.indexes.now c.slab_around-start.result c.class_at-class.result (not (c.args.size == c.size_of_class.result)) c.requires.counted c.slab_around-start.ensures c.class_at-class.ensures (ap (λ n. not (c.args.size == n)) c.size_of_class.ensures.size) } }

pub returns-clause-counted : goal.returns-clause-counted
returns-clause-counted g c =
    let words = words_of (g.P.Pmem.state c.args.device.now) in
    next_root words c.args.root c.count_block.new.self (c.count_block.ensures.counted (bounds_of words) (state_in words) c.args.root 0 (small_next words c.requires.exact c.args.root c.args.at c.args.size c.requires.block c.args.indexes.now c.slab_around-start.result c.class_at-class.result (not (c.args.size == c.size_of_class.result)) c.requires.counted c.slab_around-start.ensures c.class_at-class.ensures (ap (λ n. not (c.args.size == n)) c.size_of_class.ensures.size)))
