use Rattle.std.proofs.Common.{sym, subst, ◌*◌}
use Rattle.heap_indexes.specs.Indexes.{Indexes}
use Rattle.heap_indexes.specs.Steps.{HasLive}
use Rattle.heap_indexes.proofs.Freed.{held_row, granules_back}
use Rattle.heap_indexes.proofs.indexes.HeapIndexes.give_large.Goals as goal

pub give-requires : goal.give-requires
give-requires c =
    let live = subst (λ (x : Indexes). HasLive x (record { at = 16384 * c.args.start; size = 16384 * c.args.granules })) (sym c.self.view_is) c.requires.live in
    held_row live.apart live.are c.args.start c.args.granules live.root c.requires.many live.named

pub returns-clause-loosened : goal.returns-clause-loosened
returns-clause-loosened c =
    rw (sym c.self.view_is) (λ b m root apart are named. granules_back apart are c.args.start c.args.granules root c.requires.many named c.give.new.self c.give.ensures.granules c.give.ensures.free)
