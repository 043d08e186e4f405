use Rattle.std.proofs.Common.{arith}
use Rattle.arena_core.proofs.Common.{words_of, HasBlockAt, range_of_block}
use Rattle.pmem_lines.proofs.Words.{length-words_at}
use Rattle.arena_core.proofs.arena.Arena.view.Goals as goal

pub returns-in-Ok-clause-view : goal.returns-in-Ok-clause-view
returns-in-Ok-clause-view g c =
    let block : HasBlockAt (words_of (g.P.Pmem.state c.self.inside.device)) c.args.root (range_of_block c.in-Ok.block) = c.in-Ok.ensures in
    rw (← c.self.view_is) (grind (arith, length-words_at))
