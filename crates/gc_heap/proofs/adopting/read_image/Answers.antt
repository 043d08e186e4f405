use Rattle.std.proofs.Common.{◌+◌, ℕ, sym, ap, subst, ◌∙◌, arith}
use Rattle.pmem_lines.specs.Pmem.{words_of}
use Rattle.pool_layout.specs.declared.layout.Layout.{Layout}
use Rattle.heap_check.specs.Image.{bounds_of}
use Rattle.gc_heap.specs.Adopting.{AreReadTo}
use Rattle.gc_heap.proofs.Sizes.{first_sizes}
use Rattle.gc_heap.proofs.Adopted.{extent_low, all_read}
use Rattle.gc_heap.proofs.adopting.read_image.Goals as goal

pub loop-extent-init : goal.loop-extent-init
loop-extent-init g c =
    let words = words_of (g.P.Pmem.state c.args.device.now) in
    let row = ap (λ (layout : Layout). layout.roots) c.layout_of-root-end.ensures.row in
    let all = c.loop-root.auto.root-end in
    record {
      read = subst (λ (n : ℕ). AreReadTo words n 0 c.loop-root.indexes) (omega (arith, all, c.loop-root-test.false, row, (first_sizes words c.requires.exact.formed).roots_row)) c.loop-root.invariant.counted;
      stacks = c.loop-root.invariant.stacks;
      below = omega arith;
    }

pub overflow_add-from : goal.overflow_add-from
overflow_add-from g c =
    let words = words_of (g.P.Pmem.state c.args.device.now) in
    omega (arith, c.start-from.ensures, extent_low words c.requires.exact c.loop-extent.from c.in-Some.extent (c.in-Some.ensures.reads words c.requires.book.reads), (first_sizes words c.requires.exact.formed).most)

pub loop-extent-smaller : goal.loop-extent-smaller
loop-extent-smaller g c =
    let words = words_of (g.P.Pmem.state c.args.device.now) in
    let live = c.in-Some.ensures.reads words c.requires.book.reads in
    omega (arith, c.start-from.ensures, live.at_least, extent_low words c.requires.exact c.loop-extent.from c.in-Some.extent live, c.requires.book.granules)

pub loop-extent-preserved : goal.loop-extent-preserved
loop-extent-preserved g c =
    let words = words_of (g.P.Pmem.state c.args.device.now) in
    let live = c.in-Some.ensures.reads words c.requires.book.reads in
    record {
      read = subst (λ (n : ℕ). AreReadTo words (bounds_of words).roots (n + 1) c.take_extent.new.indexes) (sym c.start-from.ensures) c.take_extent.ensures.taken;
      stacks = c.take_extent.ensures.stacks ∙ c.loop-extent.invariant.stacks;
      below = omega (arith, c.start-from.ensures, extent_low words c.requires.exact c.loop-extent.from c.in-Some.extent live, c.requires.book.granules);
    }

pub returns-clause-are : goal.returns-clause-are
returns-clause-are g c =
    let words = words_of (g.P.Pmem.state c.args.device.now) in
    all_read words c.requires.exact c.args.log.now c.loop-extent.indexes c.loop-extent.from c.requires.book (c.in_default.ensures.reads words c.requires.book.reads) c.loop-extent.invariant.below c.loop-extent.invariant.read
