use Rattle.std.proofs.Common.{sym, ap, subst, arith}
use Rattle.pool_layout.specs.declared.layout.Layout.{Layout}
use Rattle.book_log.specs.Book.{IsBlank}
use Rattle.gc_heap.specs.Arena.{gc_bounds}
use Rattle.gc_heap.proofs.Sizes.{first_roots, first_granule}
use Rattle.gc_heap.proofs.room.GcRoom.new.Goals as goal

pub new-requires-2-clause-high : goal.new-requires-2-clause-high
new-requires-2-clause-high c = omega (arith, ap (λ (row : Layout). row.first_granule) c.layout_of.ensures.row, first_granule, c.requires.least)

pub invariant_of-result : goal.invariant_of-result
invariant_of-result c =
    let size = c.in_ok-log.ensures.granules_of in
    record {
      least = omega (arith, size, c.requires.least);
      most = omega (arith, size, c.requires.most);
      log = subst (λ n. IsBlank n c.in_ok-log.log) (sym size) c.in_ok-log.ensures;
      are = c.in-Ok.ensures.indexes (gc_bounds c.in_ok-log.log.granules) size (sym (ap (λ (row : Layout). row.first_granule) c.layout_of.ensures.row)) (omega (arith, first_roots));
      adopted = λ m adoptable. c.in-Ok.ensures.adopted (gc_bounds c.in_ok-log.log.granules) m size (sym (ap (λ (row : Layout). row.first_granule) c.layout_of.ensures.row)) (omega (arith, first_roots)) adoptable;
      stacks = c.in-Ok.ensures.stacks;
    }
