use Rattle.std.proofs.Common.{arith}
use Rattle.pmem_lines.specs.Pmem.{words_of}
use Rattle.pmem_lines.proofs.Words.{length-words_at}
use Rattle.arena_core.specs.Payload.{range_of_block}
use Rattle.gc_heap.specs.Plan.{HasGcBlockAt}
use Rattle.gc_heap.proofs.arena.GcArena.view.Goals as goal

pub returns-in-Ok-clause-view : goal.returns-in-Ok-clause-view
returns-in-Ok-clause-view g c =
    let block : HasGcBlockAt (words_of (g.P.Pmem.state c.self.inside.device)) c.args.root (range_of_block c.in-Ok.block) = c.in-Ok.ensures.0 in
    rw (← c.self.view_is) (grind (arith, length-words_at))
