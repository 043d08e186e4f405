use Rattle.std.proofs.Common.{◌+◌, refl, sym, ap, subst, arith}
use Rattle.heap_indexes.specs.Adopting.{HasNextBlock}
use Rattle.heap_indexes.specs.Indexes.{Indexes}
use Rattle.heap_indexes.proofs.Common.{live_below-most}
use Rattle.heap_indexes.proofs.StrangerBlocks.{strangers_most}
use Rattle.heap_indexes.proofs.CountedRoots.{count_rises, root_below, block_counted, put_one, put_none}
use Rattle.heap_indexes.proofs.indexes.HeapIndexes.count_block.Goals as goal

pub raise-requires-clause-few : goal.raise-requires-clause-few
raise-requires-clause-few c =
    let next = subst (λ (x : Indexes). HasNextBlock x c.args.start (record { at = c.args.at; size = c.args.size }) c.args.stranger) (sym c.self.view_is) c.requires.next in
    omega (arith, count_rises next.is, live_below-most next.machine.block c.args.start next.roots, root_below next.is, next.is.adopted.sized.roots)

pub overflow_add-count : goal.overflow_add-count
overflow_add-count c =
    let next = subst (λ (x : Indexes). HasNextBlock x c.args.start (record { at = c.args.at; size = c.args.size }) c.args.stranger) (sym c.self.view_is) c.requires.next in
    omega (arith, c.at-count.ensures, next.is.adopted.counted.strangers c.args.start next.is.class next.is.slab, strangers_most next.machine.block c.args.start next.is.class next.roots, live_below-most next.machine.block c.args.start next.roots, root_below next.is, next.is.adopted.sized.roots)

pub returns-then-stranger-clause-counted : goal.returns-then-stranger-clause-counted
returns-then-stranger-clause-counted c =
    rw (sym c.self.view_is) (λ b m n k next. block_counted next c.mark.new.self c.raise.new.self c.put.new.self c.mark.ensures c.raise.ensures.size c.raise.ensures.counts c.raise.ensures.normal c.raise.ensures.unfit c.put.ensures.size (put_one c.self.inside.strangers c.put.new.self c.args.start (c.at-count.result + 1) c.args.stranger c.if-stranger.true (ap (λ n. n + 1) c.at-count.ensures) c.put.ensures.counts))

pub returns-else-stranger-clause-counted : goal.returns-else-stranger-clause-counted
returns-else-stranger-clause-counted c =
    rw (sym c.self.view_is) (λ b m n k next. block_counted next c.mark.new.self c.raise.new.self c.self.inside.strangers c.mark.ensures c.raise.ensures.size c.raise.ensures.counts c.raise.ensures.normal c.raise.ensures.unfit refl (put_none c.self.inside.strangers c.args.start c.args.stranger c.if-stranger.false))
