use Rattle.std.proofs.Common.{◌<◌, ◌^◌, List, length, sym, subst}
use Rattle.trace_workers.proofs.Common.{words_of, Block}
use Rattle.trace_workers.proofs.ListedBlocks.{blocks_in-few}
use Rattle.trace_workers.proofs.telling.tell.Goals as goal

pub put_summary-requires : goal.put_summary-requires
put_summary-requires g c =
    let few = blocks_in-few (words_of c.args.closed.now.arena.device) c.in_ok-blocks.blocks.items c.in_ok-blocks.ensures in
    subst (λ (bs : List Block). length bs < 2 ^ 32) (sym c.deref-in-Summary-2.ensures.value) few
